-- What words say, and the layers after one more entry.
use Rattle.std.proofs.Common.{◌≡◌, ℕ, List, [], ◌∷◌, ◌++◌, refl, sym, ◌∙◌}
use Rattle.vsw_port.specs.declared.event.Event.{Event}
use Rattle.vsw_port.specs.History.{after, after_all}
use Rattle.vsw_policy.specs.Layer.{LayerSeen}
use Rattle.vsw_policy.specs.Layers.{PolicySeen}
use Rattle.vsw_rows.specs.Good.{Row}
use Rattle.vsw_rows.specs.Rows.{Says, layers_after, layers_then}
use Rattle.vsw_rows.proofs.Answers.{fronts, key_length, words_are}
use Rattle.vsw_words.specs.Key.{key_words}
use Rattle.vsw_words.specs.Row.{body_words}
use Rattle.vsw_words.proofs.Decoded.{apart}

-- words say one identity
pub one_id : (words : List ℕ) (a b : Row) → Says words a → Says words b → a.id ≡ b.id
one_id words a b s t =
    let both : key_words a.id.dir a.id.stack ++ body_words a.verdict a.acts a.until ≡ key_words b.id.dir b.id.stack ++ body_words b.verdict b.acts b.until = sym (words_are a) ∙ (sym s.words_is ∙ (t.words_is ∙ words_are b)) in
    apart a.id b.id s.id t.id (fronts (key_words a.id.dir a.id.stack) (body_words a.verdict a.acts a.until) (key_words b.id.dir b.id.stack) (body_words b.verdict b.acts b.until) (key_length a.id.dir a.id.stack) (key_length b.id.dir b.id.stack) both)

-- the layers after one more entry
pub after_more : (cs : List ℕ) (ls : List LayerSeen) (h : List Event) (e : Event) → after_all cs ls (h ++ e ∷ []) ≡ after cs (after_all cs ls h) e
after_more cs ls [] e = refl
after_more cs ls (x ∷ h) e = after_more cs (after cs ls x) h e

pub then : (p : PolicySeen) (h : List Event) (e : Event) → layers_after p (h ++ e ∷ []) ≡ layers_then p (layers_after p h) e
then p h e = after_more p.controllers p.layers h e
