-- Which rows of a port are good after a history.
use Rattle.std.specs.Prelude.{◌≡◌, ℕ, List}
use Rattle.vsw_port.specs.declared.event.Event.{Event}
use Rattle.vsw_port.specs.History.{Opening, replay}
use Rattle.vsw_rows.specs.Good.{Good, Row}
use Rattle.vsw_policy.specs.Layers.{PolicySeen}
use Rattle.vsw_words.specs.Law.{IsId}
use Rattle.vsw_words.specs.Reading.{IsBody}
use Rattle.vsw_words.specs.Row.{row_words}

-- a port begins with the controllers and the layers of its policy
abbrev pub opening_of : PolicySeen → Opening
opening_of p = record { controllers = p.controllers; layers = p.layers }

-- the words of a row: those of its identity, and of what it says of that identity's packets
abbrev pub words_of : Row → List ℕ
words_of r = row_words r.id r.verdict r.acts r.until

-- words are a good row after a history if they say, of some identity, the way of its packets through the layers that the history leaves
pub record IsGoodRow (o : Opening) (h : List Event) (words : List ℕ) : Type 0 where
  pub row : Row
  pub words_is : words ≡ words_of row
  pub id : IsId row.id
  pub body : IsBody row.verdict row.acts
  pub good : Good (replay o h) row
