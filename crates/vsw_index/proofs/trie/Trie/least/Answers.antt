use Rattle.std.proofs.Common.{◌∙◌, ap, List}
use Rattle.vsw_index.specs.declared.placed_prefix.PlacedPrefix.{PlacedPrefix}
use Rattle.vsw_index.specs.declared.chain.Node.{Node}
use Rattle.vsw_index.specs.PrefixLeast.{least_of}
use Rattle.vsw_index.specs.Chain.{least_in}
use Rattle.vsw_index.proofs.PrefixAgreed.{answers}
use Rattle.vsw_index.proofs.trie.Trie.least.Goals as goal

pub returns-clause-answers : goal.returns-clause-answers
returns-clause-answers c =
    let value =
    c.climb.ensures
    ∙ ap (λ (nodes : List Node). least_in nodes c.args.value c.args.from) c.deref.ensures.value
    ∙ c.self.invariant.1 c.args.value c.args.from
    ∙ ap (λ (items : List PlacedPrefix). least_of items c.args.value c.args.from) c.self.view_is
    in
    rw value (answers c.args.self.now c.args.value c.args.from)
