-- What can be read of variables.
pub use Rattle.rm_model.specs.Readings.{Readings}
