-- What a call may say, passed on from the crate of the refusals.
pub use Rattle.refusal.specs.Said.{Said, gives, more, finish, refuses, refusing, out_of_bytes}
