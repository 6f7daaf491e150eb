-- What holds of walks.
use Rattle.std.proofs.Common.{◌≡◌, ℕ, List, [], refl}
use Rattle.vsw_base.specs.declared.fate.Verdict.TheVariants.{Pass}
use Rattle.vsw_base.specs.declared.header.Header.{Header}
use Rattle.vsw_base.specs.declared.packet.Control.{Control}
use Rattle.vsw_base.specs.declared.packet.Dir.{Dir}
use Rattle.vsw_base.specs.declared.packet.Dir.TheVariants.{Out, In}
use Rattle.vsw_base.specs.Shape.{encaps}
use Rattle.vsw_walk.specs.Law.{PassesFreely, Unseen}
use Rattle.vsw_walk.specs.Walk.{along, crossed, ended, placed, walk_of}

freely : (d : Dir) (c : Control) (moment : ℕ) (hs : List Header) (n : ℕ) → along d c moment (crossed d (placed 0 [])) hs n ≡ ended Pass hs n
freely Out c moment hs n = refl
freely In c moment hs n = refl

pub passes_freely : PassesFreely
unfolding walk_of
passes_freely x = freely x.id.dir x.control x.moment x.id.stack (encaps x.id.stack)

pub unseen : Unseen
unfolding walk_of
unseen ls x y e f g = rw (e, f, g) refl
