-- The types of the crate model that the texts are of.
pub use Rattle.model.specs.declared.Vec3.{Vec3}
pub use Rattle.model.specs.declared.Turns.{Turns}
pub use Rattle.model.specs.declared.Kind.{Kind}
pub use Rattle.model.specs.declared.Kind.TheVariants.{Ksd, Kst, Ksw, Ksb, Kld, Ksf}
pub use Rattle.model.specs.declared.Group.{Group}
pub use Rattle.model.specs.declared.Group.TheVariants.{Operating, Orientational, Levelling}
pub use Rattle.model.specs.declared.Enabled.{Enabled}
pub use Rattle.model.specs.declared.OperatingPart.{OperatingPart}
pub use Rattle.model.specs.declared.OperatingPart.TheVariants.{Single, Pair}
pub use Rattle.model.specs.declared.System.{System as StoredSystem}
pub use Rattle.model.specs.declared.Memory.{Memory as StoredMemory}
