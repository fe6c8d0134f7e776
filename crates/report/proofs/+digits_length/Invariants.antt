-- The measure is the number of digits that may still come.
use Rattle.report.proofs.+digits_length.Given as goal

abbrev pub decreases-digits_length : goal.decreases-digits_length
decreases-digits_length l = l.left
