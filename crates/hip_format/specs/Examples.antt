-- The example of the manual, and pages at the bounds, as one list of statements under one name.
use Rattle.std.specs.Prelude.{ℕ, ◌≡◌, List, [], ◌∷◌, ℤ, pos, negsuc, take, set, Ok, Err}
use Rattle.hip_format.specs.Format.{Contents, page}
use Rattle.hip_format.specs.Reader.{refused, accepted, judged, reading}
use Rattle.hip_format.specs.Writer.{writing}
use Rattle.hip_format.specs.declared.Header.{Header}
use Rattle.hip_format.specs.declared.Cpu.{Cpu}
use Rattle.hip_format.specs.declared.Memory.{Memory}
use Rattle.hip_format.specs.declared.Refusal.TheVariants.{Short, Signature, Length, Layout, Checksum, «Type»}
use Rattle.hip_format.specs.declared.WriteRefusal.TheVariants.{Room}
use Rattle.hip_format.specs.declared.WriteRefusal as WriteRefusal

-- each of a list of statements
abbrev pub All : List (Type 0) → Type 0
All [] = Unit {0}
All (statement ∷ statements) = statement × All statements

-- the page of the manual's example: its header, four CPUs and seven ranges of memory
abbrev pub example_header : Header
example_header = record { features = 1; version = 5; sel = 256; exc = 32; vmi = 208; gsi = 24; pages = 4198400; utcbs = 4096; tsc = 2662272; bus = 100000 }

abbrev pub cpu : ℕ → ℕ → ℕ → ℕ → Cpu
cpu flags thread core packages = record { flags = flags; thread = thread; core = core; «package» = packages }

abbrev pub range : ℕ → ℕ → ℤ → ℕ → Memory
range address size kind auxiliary = record { address = address; size = size; kind = kind; auxiliary = auxiliary }

abbrev pub example_contents : Contents
example_contents =
    record {
      header = example_header;
      cpus = cpu 1 0 0 0 ∷ cpu 1 1 0 0 ∷ cpu 1 0 1 0 ∷ cpu 0 1 3 2 ∷ [];
      memories =
          range 0 654336 (pos 1) 0 ∷
          range 1048576 3219128320 (pos 1) 0 ∷
          range 3220176896 65536 (pos 3) 0 ∷
          range 3220242432 983040 (pos 4) 0 ∷
          range 4276092928 4096 (pos 2) 0 ∷
          range 2097152 524288 (negsuc 0) 0 ∷
          range 4194304 24576 (negsuc 1) 3145728 ∷
          [];
    }

abbrev pub example_page : List ℕ
example_page =
    78 ∷ 79 ∷ 86 ∷ 65 ∷ 202 ∷ 117 ∷ 240 ∷ 0 ∷ 56 ∷ 0 ∷ 4 ∷ 0 ∷ 72 ∷ 0 ∷ 24 ∷ 0 ∷
    1 ∷ 0 ∷ 0 ∷ 0 ∷ 5 ∷ 0 ∷ 0 ∷ 0 ∷ 0 ∷ 1 ∷ 0 ∷ 0 ∷ 32 ∷ 0 ∷ 0 ∷ 0 ∷ 208 ∷ 0 ∷ 0 ∷ 0 ∷ 24 ∷ 0 ∷ 0 ∷ 0 ∷ 0 ∷ 16 ∷ 64 ∷ 0 ∷ 0 ∷ 16 ∷ 0 ∷ 0 ∷ 128 ∷ 159 ∷ 40 ∷ 0 ∷ 160 ∷ 134 ∷ 1 ∷ 0 ∷
    1 ∷ 0 ∷ 0 ∷ 0 ∷ 1 ∷ 1 ∷ 0 ∷ 0 ∷ 1 ∷ 0 ∷ 1 ∷ 0 ∷ 0 ∷ 1 ∷ 3 ∷ 2 ∷
    0 ∷ 0 ∷ 0 ∷ 0 ∷ 0 ∷ 0 ∷ 0 ∷ 0 ∷ 0 ∷ 252 ∷ 9 ∷ 0 ∷ 0 ∷ 0 ∷ 0 ∷ 0 ∷ 1 ∷ 0 ∷ 0 ∷ 0 ∷ 0 ∷ 0 ∷ 0 ∷ 0 ∷
    0 ∷ 0 ∷ 16 ∷ 0 ∷ 0 ∷ 0 ∷ 0 ∷ 0 ∷ 0 ∷ 0 ∷ 224 ∷ 191 ∷ 0 ∷ 0 ∷ 0 ∷ 0 ∷ 1 ∷ 0 ∷ 0 ∷ 0 ∷ 0 ∷ 0 ∷ 0 ∷ 0 ∷
    0 ∷ 0 ∷ 240 ∷ 191 ∷ 0 ∷ 0 ∷ 0 ∷ 0 ∷ 0 ∷ 0 ∷ 1 ∷ 0 ∷ 0 ∷ 0 ∷ 0 ∷ 0 ∷ 3 ∷ 0 ∷ 0 ∷ 0 ∷ 0 ∷ 0 ∷ 0 ∷ 0 ∷
    0 ∷ 0 ∷ 241 ∷ 191 ∷ 0 ∷ 0 ∷ 0 ∷ 0 ∷ 0 ∷ 0 ∷ 15 ∷ 0 ∷ 0 ∷ 0 ∷ 0 ∷ 0 ∷ 4 ∷ 0 ∷ 0 ∷ 0 ∷ 0 ∷ 0 ∷ 0 ∷ 0 ∷
    0 ∷ 0 ∷ 224 ∷ 254 ∷ 0 ∷ 0 ∷ 0 ∷ 0 ∷ 0 ∷ 16 ∷ 0 ∷ 0 ∷ 0 ∷ 0 ∷ 0 ∷ 0 ∷ 2 ∷ 0 ∷ 0 ∷ 0 ∷ 0 ∷ 0 ∷ 0 ∷ 0 ∷
    0 ∷ 0 ∷ 32 ∷ 0 ∷ 0 ∷ 0 ∷ 0 ∷ 0 ∷ 0 ∷ 0 ∷ 8 ∷ 0 ∷ 0 ∷ 0 ∷ 0 ∷ 0 ∷ 255 ∷ 255 ∷ 255 ∷ 255 ∷ 0 ∷ 0 ∷ 0 ∷ 0 ∷
    0 ∷ 0 ∷ 64 ∷ 0 ∷ 0 ∷ 0 ∷ 0 ∷ 0 ∷ 0 ∷ 96 ∷ 0 ∷ 0 ∷ 0 ∷ 0 ∷ 0 ∷ 0 ∷ 254 ∷ 255 ∷ 255 ∷ 255 ∷ 0 ∷ 0 ∷ 48 ∷ 0 ∷
    []

-- the same page with one byte changed, or with fewer bytes
abbrev pub with_byte : ℕ → ℕ → List ℕ
with_byte at byte = set example_page at byte

-- the page of no descriptors, with every field 0
abbrev pub empty_header : Header
empty_header = record { features = 0; version = 0; sel = 0; exc = 0; vmi = 0; gsi = 0; pages = 0; utcbs = 0; tsc = 0; bus = 0 }

abbrev pub empty_contents : Contents
empty_contents = record { header = empty_header; cpus = []; memories = [] }

-- a page of one range of a type
abbrev pub one_range : ℤ → Contents
one_range kind = record { header = empty_header; cpus = []; memories = range 1 2 kind 3 ∷ [] }

abbrev pub PageExamples : Type 0
PageExamples =
    All (
    (page example_contents ≡ example_page) ∷
    (judged example_page ≡ accepted example_contents) ∷
    (reading (judged example_page) ≡ Ok (record { header = example_header; cpus = 4; memories = 7 })) ∷
    (judged (with_byte 16 2) ≡ refused Checksum) ∷
    (judged (take 239 example_page) ≡ refused Length) ∷
    (judged (take 239 (with_byte 6 239)) ≡ refused Layout) ∷
    (judged (take 55 example_page) ≡ refused Short) ∷
    (judged (with_byte 3 66) ≡ refused Signature) ∷
    (judged (page empty_contents) ≡ accepted empty_contents) ∷
    (judged (page (one_range (pos 0))) ≡ refused «Type») ∷
    (judged (page (one_range (pos 5))) ≡ refused «Type») ∷
    (judged (page (one_range (negsuc 2))) ≡ refused «Type») ∷
    (judged (page (one_range (negsuc 1))) ≡ accepted (one_range (negsuc 1))) ∷
    (reading (refused Layout) ≡ Err Layout) ∷
    ((writing (one_range (pos 0)) []).answer ≡ Err WriteRefusal.TheVariants.«Type») ∷
    ((writing empty_contents []).answer ≡ Err Room) ∷
    ((writing example_contents example_page).answer ≡ Ok 240) ∷
    [])
