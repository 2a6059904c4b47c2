use Rattle.image.proofs.numbers.+read_number.Given as goal

-- the most falls
abbrev pub decreases-read_number : goal.decreases-read_number
decreases-read_number l = l.most
