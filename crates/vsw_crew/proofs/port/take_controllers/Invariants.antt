use Rattle.std.proofs.Common.{◌≡◌, ◌++◌, drop}
use Rattle.std.specs.List.{flat_map}
use Rattle.vsw_crew.specs.Private.Port.{AreOnce, all_gone, pair_at}
use Rattle.vsw_crew.proofs.port.take_controllers.Given as goal

abbrev pub invariant-loop-at : goal.invariant-loop-at
invariant-loop-at l = record {
  once : AreOnce (drop l.at l.places);
  told : l.out.items ++ flat_map (pair_at l.place l.firsts l.laters) (drop l.at l.places) ≡ l.fn.out.items ++ flat_map (pair_at l.place l.fn.firsts l.fn.laters) l.places;
  firsts : all_gone l.place l.firsts ≡ all_gone l.place l.fn.firsts;
  laters : all_gone l.place l.laters ≡ all_gone l.place l.fn.laters;
}
