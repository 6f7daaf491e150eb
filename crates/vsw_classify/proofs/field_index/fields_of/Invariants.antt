use Rattle.std.specs.List.{All, AllWithin}
use Rattle.vsw_classify.specs.declared.entry.Entry.{Entry}
use Rattle.vsw_classify.specs.declared.field_index.FieldIndex.{FieldIndex}
use Rattle.vsw_classify.specs.Private.Entry.{IsIndexOf, IsServed}
use Rattle.vsw_classify.proofs.field_index.fields_of.Given as goal

abbrev pub invariant-loop-entry : goal.invariant-loop-entry
invariant-loop-entry l = record {
  built : All (λ (x : FieldIndex). IsIndexOf l.entries x.field x) l.fields.items;
  served : AllWithin (λ (e : Entry). IsServed l.entries l.fields.items e) l.entries 0 l.entry-index;
}
