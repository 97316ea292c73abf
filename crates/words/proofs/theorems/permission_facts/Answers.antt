-- The permission facts are laws of bits.
use Rattle.words.proofs.BitLaws as laws
use Rattle.words.proofs.theorems.permission_facts.Goals as goal

pub returns : goal.returns
returns c =
    record {
      within_itself = laws.within_itself;
      within_across = laws.within_across;
      within_both = laws.within_both;
      delegated_within_source = laws.delegated_within_source;
      delegated_within_mask = laws.delegated_within_mask;
      delegated_greatest = laws.within_delegated;
      delegated_respects = laws.delegated_respects;
      revoked_within = laws.revoked_within;
      revoked_apart = laws.revoked_apart;
      revoked_greatest = laws.within_revoked;
      revoked_respects = laws.revoked_respects;
    }
