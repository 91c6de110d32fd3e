use Rattle.std.proofs.Common.{ℕ, List}
use Rattle.std.specs.Io.KnownBytes.{Consumes}
use Rattle.sha2.specs.Hashers.{Holds256}
use Rattle.sp_system.proofs.known.digest_of.Given as goal

-- What was read so far is in the hasher.
abbrev pub invariant-pieces : goal.invariant-pieces
invariant-pieces g l = (front : List ℕ) × Holds256 l.hasher front × Consumes (g.R.Read.remaining l.fn.reader) (g.R.Read.remaining l.reader) front
