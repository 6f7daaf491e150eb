use Rattle.std.proofs.Common.{◌≡◌, ◌<◌, ◌+◌, suc, [], length, take, arith, subst, sym, ◌∙◌, true}
use Rattle.vsw_offload.proofs.Noted.{each_more, still}
use Rattle.vsw_offload.specs.Private.Noting.{AreNoted, is_taken}
use Rattle.vsw_offload.specs.Rows.{key_of}
use Rattle.vsw_words.specs.Slot.{slot}
use Rattle.vsw_offload.proofs.guesses.note_all.Goals as goal

pub loop-row-preserved : goal.loop-row-preserved
loop-row-preserved c =
    let n = c.loop-row.row-index in
    let rows = c.args.rows.now in
    let places = c.note.new.places.items in
    let below : n < length rows = omega (arith, c.loop-row-test.true) in
    let next : n + 1 ≡ suc n = omega arith in
    record {
      noted = subst (λ k. AreNoted places c.args.slots (take k rows)) (sym next) (each_more (λ r. is_taken places (slot (key_of r) c.args.slots) ≡ true) rows n [] below (still c.loop-row.places.items places c.args.slots (take n rows) c.note.ensures.kept c.loop-row.invariant.noted) c.note.ensures.taken);
      kept = λ m e. c.note.ensures.kept m (c.loop-row.invariant.kept m e);
      long = c.note.ensures.long ∙ c.loop-row.invariant.long;
      place = c.after-place.ensures;
    }
