use Rattle.std.proofs.Common.{ap, sym, ◌∙◌, get_or}
use Rattle.std.proofs.lemmas.List.{get_or_default}
use Rattle.std.proofs.lemmas.List.Elements.{AllWithin-more}
use Rattle.vsw_classify.specs.declared.entry.Entry.{Entry}
use Rattle.vsw_classify.specs.Private.Entry.{IsServed}
use Rattle.vsw_classify.proofs.field_index.fields_of.Goals as goal

pub loop-entry-preserved : goal.loop-entry-preserved
loop-entry-preserved c =
    let s = c.in_ok-serve.ensures in
    let P : Entry → Type 0 = IsServed c.args.entries.now c.serve.new.fields.items in
    record {
      built = s.built c.loop-entry.invariant.built;
      served = AllWithin-more P c.args.entries.now 0 c.loop-entry.entry-index
          (λ k d from u. s.kept (get_or c.args.entries.now k d) (c.loop-entry.invariant.served k d from u))
          (λ d. s.served c.loop-entry.invariant.built (get_or c.args.entries.now c.loop-entry.entry-index d) (ap (λ (e : Entry). e.field) (get_or_default c.args.entries.now c.loop-entry.entry-index d c.entry-item.result c.loop-entry-test.true ∙ sym c.entry-item.is)));
    }
