use Rattle.print.proofs.+put_long.Given as goal

-- the number falls
abbrev pub decreases-put_long : goal.decreases-put_long
decreases-put_long l = l.n
