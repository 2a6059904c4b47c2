-- The types that the code and the definitions share, of the crates that declare them.
pub use Rattle.model.specs.declared.Dir.{Dir}
pub use Rattle.model.specs.declared.Dir.TheVariants.{Px, Nx, Py, Ny, Pz, Nz}
pub use Rattle.model.specs.declared.Rot.{Rot}
pub use Rattle.model.specs.declared.Vec3.{Vec3}
pub use Rattle.model.specs.declared.Turns.{Turns}
pub use Rattle.pose.specs.declared.Pose.{Pose as StoredPose}
