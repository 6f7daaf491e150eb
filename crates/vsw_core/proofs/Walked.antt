-- The row of a walk.
use Rattle.std.proofs.Common.{◌≡◌, ℕ, List, true, false, refl, sym, ap, subst, ◌∙◌}
use Rattle.vsw_base.specs.declared.fate.Verdict.TheVariants.{Pass}
use Rattle.vsw_base.specs.declared.flow.Crossing.{Crossing}
use Rattle.vsw_base.specs.declared.packet.Control.TheVariants as control
use Rattle.vsw_base.specs.Fits.{AreFit}
use Rattle.vsw_base.specs.Shape.{is_stack}
use Rattle.vsw_port.specs.Cross.{makes}
use Rattle.vsw_port.specs.Walked.{IsWalk}
use Rattle.vsw_core.specs.Walks.{IsWholeWalk, SaysRowOf}
use Rattle.vsw_policy.specs.Layer.{LayerSeen}
use Rattle.vsw_rows.specs.Good.{IsGoodLeaning, Row}
use Rattle.vsw_rows.proofs.Ways.{walk_makes}
use Rattle.vsw_rows.specs.Rows.{IsFresh}
use Rattle.vsw_transpose.specs.declared.act.Act.{Act}
use Rattle.vsw_transpose.specs.Apply.{apply}
use Rattle.vsw_transpose.specs.Fits as fit
use Rattle.vsw_walk.specs.declared.walking.Walked.{Walked}
use Rattle.vsw_walk.specs.Walk.{Told}
use Rattle.vsw_words.specs.Reading.{IsBody}
use Rattle.vsw_words.specs.Row.{IsBare, row_words}

-- a walk over layers that are the same
pub whole_at : (ls ms : List LayerSeen) (x : Crossing) (w : Walked) (t : Told) → ls ≡ ms → IsWholeWalk ls x w t → IsWholeWalk ms x w t
whole_at ls ms x w t e h = subst (λ ks. IsWholeWalk ks x w t) e h

-- what is done to a packet of this walk, as acts
pub record ActsOf (x : Crossing) (w : Walked) (t : Told) (by : List Act) : Type 0 where
  pub bare : IsBare w.verdict by
  pub fits : w.verdict ≡ Pass → fit.fits by x.id.stack ≡ true
  pub stack : w.verdict ≡ Pass → apply by x.id.stack ≡ t.stack
  pub kept : w.verdict ≡ Pass → fit.kept by ≡ w.kept

-- the words of these acts say the row of the walk
pub row_said : (x : Crossing) (w : Walked) (t : Told) (by : List Act) (words : List ℕ) → x.control ≡ control.None → (w.verdict ≡ Pass → makes t.changes ≡ false) → is_stack x.id.stack ≡ true → AreFit x.id.stack → IsBody w.verdict by → ActsOf x w t by
    → words ≡ row_words x.id w.verdict by w.until → (ls : List LayerSeen) → IsWholeWalk ls x w t → SaysRowOf ls x words
row_said x w t by words plain pair stack ranges body acts are ls h =
    let r : Row = record { id = x.id; verdict = w.verdict; acts = by; until = w.until } in
    record {
      row = r;
      says = record { words_is = are; id = record { stack = stack; fit = ranges }; body = body };
      walked = record {
        control = plain;
        id = refl;
        verdict = h.verdict;
        bare = acts.bare;
        makes = λ p. ap makes (sym h.changes) ∙ pair p;
        fits = acts.fits;
        stack = λ p. acts.stack p ∙ h.stack p;
        kept = λ p. acts.kept p ∙ h.kept p;
        until = h.until;
      };
    }

-- such a row is fresh, with the looks of the walk
pub fresh_row : (ls : List LayerSeen) (x : Crossing) (w : Walked) (t : Told) (words : List ℕ) → IsWholeWalk ls x w t → SaysRowOf ls x words → IsFresh ls words t.looked
fresh_row ls x w t words h s = record { row = s.row; says = s.says; good = subst (λ qs. IsGoodLeaning ls (record { row = s.row; looks = qs })) (sym h.looked) (walk_makes ls x s.row s.walked) }

-- as a walk over layers that are the same, and as its callers have it
pub is_walk : (ls ms : List LayerSeen) (x : Crossing) (w : Walked) (t : Told) → ms ≡ ls → IsWholeWalk ls x w t → IsWalk ms x w t
is_walk ls ms x w t e h = subst (λ ks. IsWalk ks x w t) (sym e) (record { verdict = h.verdict; changes = h.changes; stack = h.stack; kept = h.kept; leads = h.leads })
