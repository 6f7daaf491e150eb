use Rattle.std.proofs.Common.{◌≡◌, drop, fold}
use Rattle.vsw_layerflow.specs.Point as spec
use Rattle.vsw_layerflow.proofs.point.PointHasher.take_bytes.Given as goal

abbrev pub invariant-loop-byte : goal.invariant-loop-byte
invariant-loop-byte l = fold spec.taken l.self (drop l.byte-index l.bytes) ≡ fold spec.taken l.fn.self l.bytes
