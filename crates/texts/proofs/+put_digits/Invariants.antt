-- The measure is how many digits are left: the digits before the last one are those of a sixteenth of the number.
use Rattle.texts.proofs.+put_digits.Given as goal

abbrev pub decreases-put_digits : goal.decreases-put_digits
decreases-put_digits l = l.count
