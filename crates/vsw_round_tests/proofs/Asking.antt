-- A refused line is a call.
use Rattle.std.proofs.Common.{ℕ, [], refl, arith}
use Rattle.vsw_round_tests.specs.declared.refusing.Notes.{Notes}
use Rattle.vsw_round_tests.specs.declared.refusing.Refusing.{Refusing}
use Rattle.vsw_port.specs.Calls.{Short}
use Rattle.vsw_port.proofs.Fronts.{prefix_self}
use Rattle.vsw_many.specs.Passes.{Crosses}
use Rattle.vsw_promise.specs.Rounds.{opening_of}
use Rattle.vsw_round_tests.specs.Refusing.{port, pass, asked, refused}

pub refuses : (p : Refusing) (r s : Notes) (n : ℕ) → Crosses (opening_of (port p)) (pass r) (pass s) (asked n) (refused n)
refuses p r s n = record { number = refl; seen = prefix_self []; about = refl; call = Short (record { marked = refl; within = omega arith; wants = refl }); shows = tt; low = omega arith; receipts = refl }
