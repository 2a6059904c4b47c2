use Rattle.model.specs.Effects.{enabled_user}
use Rattle.memory.proofs.enable.enabled_user.Goals as goal

pub returns-in-Ksd : goal.returns-in-Ksd
unfolding enabled_user
returns-in-Ksd c = rw c.in-Ksd.is c.with_operating.ensures

pub returns-in-Kst : goal.returns-in-Kst
unfolding enabled_user
returns-in-Kst c = rw (c.in-Kst.is, ← c.work_half.ensures) c.with_operating-in-Kst.ensures

pub returns-in-Ksw : goal.returns-in-Ksw
unfolding enabled_user
returns-in-Ksw c = rw (c.in-Ksw.is, ← c.tool_half.ensures) c.with_operating-in-Ksw.ensures

pub returns-in-Ksb : goal.returns-in-Ksb
unfolding enabled_user
returns-in-Ksb c = rw c.in-Ksb.is c.with_orientational.ensures

pub returns-in-Kld : goal.returns-in-Kld
unfolding enabled_user
returns-in-Kld c = rw c.in-Kld.is c.with_levelling.ensures

pub returns-in-Ksf : goal.returns-in-Ksf
unfolding enabled_user
returns-in-Ksf c = rw c.in-Ksf.is c.with_operating-in-Ksf.ensures
