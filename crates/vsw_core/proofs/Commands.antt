-- A command at the end of the history.
use Rattle.std.proofs.Common.{◌≡◌, ◌+◌, ◌-◌, ◌++◌, ℕ, Bool, true, false, not, true≢false, List, [], ◌∷◌, slice_set, append-nil, Some, Result, sym, ap, subst, ◌∙◌, arith}
use Rattle.std.proofs.lemmas.List.{set-set}
use Rattle.vsw_commandfile.specs.declared.line.Line.{Line}
use Rattle.vsw_core.specs.Calls.{FallsOver, called, grown}
use Rattle.vsw_core.specs.Core.{IsOwned}
use Rattle.vsw_port.specs.declared.event.Event.{Event}
use Rattle.vsw_port.specs.declared.event.Event.TheVariants as event
use Rattle.vsw_port.specs.Calls.{Asked}
use Rattle.vsw_port.specs.History.{AllRight, IsRight, Opening, replay}
use Rattle.vsw_port.specs.Next.{IsDone, Enters, Reading, Wanting}
use Rattle.vsw_port.proofs.Next.{right_more}
use Rattle.vsw_port.specs.Core.{entered}
use Rattle.vsw_port.specs.Ledger.{LedgerSeen, layers_in}
use Rattle.vsw_policy.specs.declared.command.Command.{Command}
use Rattle.vsw_policy.specs.declared.refusal.Refusal.{Refusal}
use Rattle.vsw_policy.specs.declared.refusal.Reply.{Reply}
use Rattle.vsw_policy.specs.Layer.{LayerSeen}
use Rattle.vsw_policy.specs.Layers.{PolicySeen}
use Rattle.vsw_policy.specs.Obey.{is_memory}
use Rattle.vsw_policy.specs.Refusals.{reply_of}
use Rattle.vsw_rows.specs.GoodRows.{opening_of}
use Rattle.vsw_rows.specs.Rows.{Says, layers_after}
use Rattle.vsw_table.specs.Held.{after_entry, passed}
use Rattle.vsw_table.specs.Rules.{counted_record, row_at, stamp_at}
use Rattle.vsw_flows.specs.Flows.{AllSpared, Any, Falls, OrFell, Spares, Writing}
use Rattle.vsw_flows.proofs.Owed.{command_owed}
use Rattle.vsw_core.proofs.Entered.{fallen, meeting, met}

-- what the line asks
abbrev pub line_of : ℕ → ℕ → Command → Line
line_of line controller m = record { number = line; at = 0; during = false; controller = controller; port = 0; command = m }

-- a command's entry, where memory wasn't wanting
pub entered_one : (answer : Result (Unit {0}) Refusal) (e : Event) → is_memory answer ≡ false → entered (not (is_memory answer)) e ≡ e ∷ []
entered_one answer e is = ap (λ b. entered (not b) e) is

-- and none, where it was
pub entered_none : (answer : Result (Unit {0}) Refusal) (e : Event) → is_memory answer ≡ true → entered (not (is_memory answer)) e ≡ []
entered_none answer e is = ap (λ b. entered (not b) e) is

right_entry : (o : Opening) (h : List Event) (l : Line) (r : Reply) (b : Bool) → b ≡ true → IsDone o h (Asked l r) b → IsRight o.controllers (replay o h) (event.Command l.controller l.number l.command r)
right_entry o h l r b is (Enters e right) = right
right_entry o h l r b is (Reading e reads) = absurd reads
right_entry o h l r b is (Wanting e wants) = absurd (true≢false (sym is ∙ e))

-- is right at the layers that stand
pub entry_right : (p : PolicySeen) (c : LedgerSeen) (w u : Writing) (permits line controller : ℕ) (m : Command) (answer : Result (Unit {0}) Refusal) → w.view.opening ≡ Some p → IsOwned c w permits → u.view.history ≡ w.view.history → is_memory answer ≡ false
    → IsDone c.opening c.journal (Asked (line_of line controller m) (reply_of answer)) (not (is_memory answer)) → IsRight p.controllers (layers_after p u.view.history) (event.Command controller line m (reply_of answer))
entry_right p c w u permits line controller m answer opens o same short done =
    let l = line_of line controller m in
    let here : IsDone (opening_of p) c.journal (Asked l (reply_of answer)) (not (is_memory answer)) = subst (λ (b : Opening). IsDone b c.journal (Asked l (reply_of answer)) (not (is_memory answer))) (o.opening p opens) done in
    let now : IsDone (opening_of p) u.view.history (Asked l (reply_of answer)) (not (is_memory answer)) = subst (λ (h : List Event). IsDone (opening_of p) h (Asked l (reply_of answer)) (not (is_memory answer))) (o.journal ∙ sym same) here in
    right_entry (opening_of p) u.view.history l (reply_of answer) (not (is_memory answer)) (ap not short) now

-- the history stays right
pub right_behind : (p : PolicySeen) (c : LedgerSeen) (w v : Writing) (permits : ℕ) (e : Event) → w.view.opening ≡ Some p → IsOwned c w permits → AllRight c.opening c.journal → IsRight p.controllers (layers_after p w.view.history) e → v.view.history ≡ w.view.history ++ e ∷ []
    → AllRight (opening_of p) v.view.history
right_behind p c w v permits e opens o right last is =
    let here : AllRight (opening_of p) w.view.history = subst (λ (h : List Event). AllRight (opening_of p) h) o.journal (subst (λ (b : Opening). AllRight b c.journal) (o.opening p opens) right) in
    subst (λ (h : List Event). AllRight (opening_of p) h) (sym is) (right_more p.controllers p.layers w.view.history e here last)

-- ---- the rows fell between a meeting and the entry

-- the layers before a command
pub layers_there : (p : PolicySeen) (c : LedgerSeen) (w m : Writing) (permits : ℕ) (ls : List LayerSeen) → w.view.opening ≡ Some p → IsOwned c w permits → m.view.history ≡ w.view.history → ls ≡ layers_in c → ls ≡ layers_after p m.view.history
layers_there p c w m permits ls opens o same is = is ∙ (ap (λ (b : Opening). replay b c.journal) (o.opening p opens) ∙ ap (λ (h : List Event). layers_after p h) (o.journal ∙ sym same))

-- the writer after the meeting of a pass, after rows fell
pub record Falling (w m u s q : Writing) : Type 0 where
  pub meets : m ≡ meeting w s
  pub pass : q ≡ met w s
  pub falls : Falls Any m u

there : (w m u s q : Writing) → Falling w m u s q → u ≡ fallen (meeting w s) u.view.stamps
there w m u s q f = f.falls.same ∙ ap (λ (x : Writing). fallen x u.view.stamps) f.meets

pub falling_history : (w m u s q : Writing) → Falling w m u s q → u.view.history ≡ w.view.history
falling_history w m u s q f = ap (λ (x : Writing). x.view.history) (there w m u s q f)

-- what one entry behind it makes of the writer
pub grown_one : (w m u v s q : Writing) (e : Event) (es : List Event) → es ≡ e ∷ [] → Falling w m u s q → v ≡ record u { view = after_entry u.view q.view e } → v ≡ record w { view = grown w.view s.view es v.view }
grown_one w m u v s q e es one f is =
    let n = s.view.number in
    let k = s.view.permits in
    let t : Writing = fallen (meeting w s) u.view.stamps in
    let made : Writing = record t { view = after_entry t.view (met w s).view e } in
    let whole : v ≡ made = is ∙ (λ i. record (there w m u s q f i) { view = after_entry (there w m u s q f i).view (f.pass i).view e }) in
    let less : (k + 0) - 1 ≡ k - 1 = omega arith in
    let kept : slice_set (slice_set w.view.kept n (k + 0)) n ((k + 0) - 1) ≡ slice_set w.view.kept n (k - 1) = set-set w.view.kept n (k + 0) ((k + 0) - 1) ∙ ap (λ (j : ℕ). slice_set w.view.kept n j) less in
    let here : made ≡ record w { view = grown w.view s.view (e ∷ []) made.view } = λ i. record made { view = record made.view { kept = kept i } } in
    subst (λ (x : Writing). x ≡ record w { view = grown w.view s.view es x.view }) (sym whole) (subst (λ (xs : List Event). made ≡ record w { view = grown w.view s.view xs made.view }) (sym one) here)

no_more : (n : ℕ) → n + 0 ≡ n - 0
no_more n = omega arith

-- and without one
pub grown_none : (w m u s q : Writing) (es : List Event) → es ≡ [] → Falling w m u s q → u ≡ record w { view = grown w.view s.view es u.view }
grown_none w m u s q es none f =
    let t : Writing = fallen (meeting w s) u.view.stamps in
    let here : t ≡ record w { view = grown w.view s.view [] t.view } = λ i. record w { view = record w.view { history = sym (append-nil w.view.history) i; kept = slice_set w.view.kept s.view.number (no_more s.view.permits i); stamps = t.view.stamps } } in
    subst (λ (x : Writing). x ≡ record w { view = grown w.view s.view es x.view }) (sym (there w m u s q f)) (subst (λ (xs : List Event). t ≡ record w { view = grown w.view s.view xs t.view }) (sym none) here)

-- the pass then
pub called_none : (w m u s q : Writing) (es : List Event) → es ≡ [] → Falling w m u s q → q ≡ record s { view = called s.view u.view.history es }
called_none w m u s q es none f =
    let here : met w s ≡ record s { view = called s.view w.view.history [] } = λ i. record s { view = record s.view { front = w.view.history; receipts = sym (append-nil s.view.receipts) i; permits = no_more s.view.permits i; shown = counted_record w.view.history } } in
    f.pass ∙ (here ∙ (λ i. record s { view = called s.view (sym (falling_history w m u s q f) i) (sym none i) }))

one_less : (n : ℕ) → n + 0 - 1 ≡ n - 1
one_less n = omega arith

pub called_one : (w m u v s q r : Writing) (e : Event) (es : List Event) → es ≡ e ∷ [] → Falling w m u s q → r ≡ record q { view = passed q.view v.view e } → r ≡ record s { view = called s.view v.view.history es }
called_one w m u v s q r e es one f is =
    let here : record (met w s) { view = passed (met w s).view v.view e } ≡ record s { view = called s.view v.view.history (e ∷ []) } = λ i. record s { view = record s.view { front = v.view.history; receipts = s.view.receipts ++ e ∷ []; permits = one_less s.view.permits i; shown = counted_record v.view.history } } in
    is ∙ ((λ i. record (f.pass i) { view = passed (f.pass i).view v.view e }) ∙ (here ∙ (λ i. record s { view = called s.view v.view.history (sym one i) })))

-- the rows that are current still are spared, if the command was done
pub falls_over : (p : PolicySeen) (ls : List LayerSeen) (c : ℕ) (command : Command) (obeyed : Bool) (w m u v s q : Writing) → Falling w m u s q → v.view.given ≡ u.view.given → v.view.stamps ≡ u.view.stamps → v.view.rows ≡ u.view.rows
    → ls ≡ layers_after p w.view.history → (obeyed ≡ true → AllSpared ls c command u) → FallsOver (layers_after p w.view.history) c command obeyed w v
falls_over p ls c command obeyed w m u v s q f given stamps rows same spared = record {
  fell = record { given = given ∙ ap (λ (x : Writing). x.view.given) back; words = rows ∙ ap (λ (x : Writing). x.view.rows) back; each = each };
  spared = λ e place r one. subst (λ ks. AllSpared ks c command u) same (spared e) place r (record { current = λ z. one.current (ap (λ ns. stamp_at ns place) stamps ∙ z); says = subst (λ rs. Says (row_at rs place) r) rows one.says });
}
  where
    back : u ≡ fallen (meeting w s) u.view.stamps
    back = there w m u s q f

    each : (place : ℕ) → OrFell Any w v place
    each place = subst (λ ns. OrFell Any w (record w { view = record w.view { stamps = ns } }) place) (sym stamps) (subst (λ (x : Writing). OrFell Any x u place) f.meets (f.falls.each place))

-- what stays is what the entry asks for
pub command_spares : (p : PolicySeen) (ls : List LayerSeen) (c line : ℕ) (command : Command) (reply : Reply) (last : Event) (u : Writing) → last ≡ event.Command c line command reply → ls ≡ layers_after p u.view.history → AllSpared ls c command u → Spares (layers_after p u.view.history) last u
command_spares p ls c line command reply last u is same spared = subst (λ e. Spares (layers_after p u.view.history) e u) (sym is) (subst (λ ks. Spares ks (event.Command c line command reply) u) same (command_owed ls c line command reply u spared))
