-- What holds of good rows.
use Rattle.std.specs.Prelude.{◌≡◌, ℕ, List, ◌++◌}
use Rattle.vsw_base.specs.declared.fate.Verdict.{Verdict}
use Rattle.vsw_base.specs.declared.flow.Crossing.{Crossing}
use Rattle.vsw_port.specs.Cross.{cross_of}
use Rattle.vsw_port.specs.declared.event.Event.{Event}
use Rattle.vsw_port.specs.History.{Opening, replay}
use Rattle.vsw_rows.specs.Good.{MayAnswer, Row}
use Rattle.vsw_rows.specs.LeanLaw.{answer_by}
use Rattle.vsw_rows.specs.GoodRows.{IsGoodRow}
use Rattle.vsw_transpose.specs.declared.act.Act.{Act}
use Rattle.vsw_words.specs.Key.{key_words}
use Rattle.vsw_words.specs.Law.{IsId}
use Rattle.vsw_words.specs.Row.{body_words}

-- the row that a packet finds by its key: its identity, and what the body says
abbrev pub row_found : Crossing → Verdict → List Act → ℕ → Row
row_found x verdict acts until = record { id = x.id; verdict = verdict; acts = acts; until = until }

-- a packet whose key words begin a good row is answered by the body behind them as by the layers that the history leaves, and changes nothing
-- there, if it has no control and isn't late
abbrev pub RowAnswers : Type 0
RowAnswers = (o : Opening) (h : List Event) (x : Crossing) (body : List ℕ) → IsId x.id → IsGoodRow o h (key_words x.id.dir x.id.stack ++ body)
    → (verdict : Verdict) × (acts : List Act) × (until : ℕ) × (body ≡ body_words verdict acts until)
    × (MayAnswer (row_found x verdict acts until) x → cross_of (replay o h) x ≡ answer_by (replay o h) (row_found x verdict acts until) x)
