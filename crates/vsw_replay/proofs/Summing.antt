-- The summary of a run whose packets were all given.
use Rattle.std.proofs.Common.{◌≡◌, ◌<◌, inl, inr, ◌+◌, ℕ, zero, suc, Bool, true, false, List, [], ◌∷◌, ◌++◌, length, map, Option, Some, None, Ok, Err, refl, ap, ap₂, sym, ◌∙◌, subst, arith, append-nil}
use Rattle.std.proofs.lemmas.List.{length-map}
use Rattle.std.specs.Prelude.{⊤}
use Rattle.vsw_generate.specs.Draws.{after}
use Rattle.vsw_generate.specs.Policy.{policy_text}
use Rattle.vsw_generate.specs.Workload.{packets_from}
use Rattle.vsw_port.specs.declared.event.Event.{Event}
use Rattle.vsw_host.specs.Outside.{DoesPut, Grows, Outside}
use Rattle.vsw_host.specs.declared.host.Failed.{Failed}
use Rattle.vsw_config.specs.Policy.{policy_file_of}
use Rattle.vsw_config.specs.declared.file.PolicyFile.{PolicyFile}
use Rattle.vsw_promise.specs.Ports.{PortSeen, ports_of}
use Rattle.vsw_run.specs.Generated.{Summarizes, alone_under, generated_records, whole_record}
use Rattle.vsw_promise.specs.Jobs.{Setting, cuts, cuts_within}
use Rattle.vsw_promise.specs.Rounds.{AreChained, AreRounds}
use Rattle.vsw_promise.specs.Summary.{entries_after, five_lines, summary_text, total}
use Rattle.vsw_replay.proofs.Carried.{none_so_far, rounds_of}
use Rattle.vsw_replay.proofs.Cuts.{all_within, within_none}
use Rattle.vsw_report.specs.declared.round.Round.{Round}
use Rattle.vsw_replay.specs.Private.SoFar.{AreSoFar}
use Rattle.vsw_replay.proofs.Totals.{total_map}
use Rattle.vsw_replay.specs.Close.{entries_in}
use Rattle.vsw_replay.specs.Switch.{AllStandAt, IsAt, PortNow, SwitchNow}
use Rattle.vsw_replay.specs.Tally.{none}
use Rattle.vsw_replay.specs.declared.run.Run.{Run}
use Rattle.vsw_replay.specs.declared.run.WorkloadEnd.TheVariants as end
use Rattle.vsw_replay.specs.Draws.{records_left}
use Rattle.vsw_replay.specs.Going.{Goes, end_of}
use Rattle.vsw_replay.specs.WorkloadRuns.{RunsWorkload}

-- ---- the beginning

pub begins : (s : Setting) (start packets : ℕ) (run : Run) (switch : SwitchNow) → run.workload ≡ (start, 0, packets) → run.short ≡ false → run.tally ≡ none → IsAt s (map (λ p. []) (ports_of s.policy)) switch → Goes s (generated_records start packets) 0 run switch
begins s start packets run switch w short tally at = record {
  given = [];
  rounds = [];
  histories = map (λ p. []) (ports_of s.policy);
  whole = ap records_left w;
  count = refl;
  cut = inl (inr (0, refl));
  so = subst (λ c. AreSoFar s [] c [] (map (λ p. []) (ports_of s.policy))) (sym (within_none s.commands)) (none_so_far s at.some at.few);
  at = at;
  short_is = sym short;
  tally_is = tally;
}

-- ---- entries

journals : (workers : ℕ) (ss : List PortSeen) (hs : List (List Event)) (ps : List PortNow) → AllStandAt workers ss hs ps → entries_in ps ≡ total (λ h. length h) hs
journals workers [] [] [] a = refl
journals workers (s ∷ ss) (h ∷ hs) (p ∷ ps) a = ap₂ (λ x y. x + y) (ap length a.0.journal) (journals workers ss hs ps a.1)
journals workers [] [] (p ∷ ps) a = absurd a
journals workers [] (h ∷ hs) ps a = absurd a
journals workers (s ∷ ss) [] ps a = absurd a
journals workers (s ∷ ss) (h ∷ hs) [] a = absurd a

last_entries : (counts : List ℕ) (rounds : List Round) (last : List ℕ) → AreChained counts rounds last → entries_after (total (λ n. n) counts) rounds ≡ total (λ n. n) last
last_entries counts [] last c = ap (total (λ n. n)) (sym c)
last_entries counts (r ∷ rs) last c = ap (λ n. entries_after n rs) (sym (total_map (λ n. n) (λ p. p.after) r.ports)) ∙ last_entries (map (λ p. p.after) r.ports) rs last c.1

no_entries : (ps : List PortSeen) → total (λ n. n) (map (λ p. 0) ps) ≡ 0
no_entries [] = refl
no_entries (p ∷ ps) = omega (arith, no_entries ps)

-- ---- the end

packets_count : (state given left : ℕ) → length (packets_from state given left) ≡ left
packets_count state given zero = refl
packets_count state given (suc left) = ap suc (packets_count (after state) (suc given) left)

none_left : (w : ℕ × ℕ × ℕ) → w.2 ≡ 0 → records_left w ≡ []
none_left (state, given, zero) e = refl
none_left (state, given, suc left) e = absurd (omega (arith, e))

-- all rounds were run
pub summarized : (start packets first : ℕ) (policy : PolicyFile) (run : Run) (switch : SwitchNow) (events : ℕ) (text : List ℕ) → 0 < packets → policy_file_of policy_text ≡ Ok policy → Goes (alone_under policy) (generated_records start packets) first run switch → run.workload.2 ≡ 0 → events ≡ entries_in switch.ports
    → text ≡ five_lines packets run.tally.pass run.tally.drop events run.tally.bytes → Summarizes start packets run.short text
summarized start packets first policy run switch events text some good g end events_are text_is = record {
  policy = policy;
  good = good;
  rounds = g.rounds;
  are = subst (λ w. AreRounds s w (cuts [] packets) g.rounds) all (subst (λ c. AreRounds s g.given c g.rounds) (ap (λ n. cuts [] n) size) (subst (λ c. AreRounds s g.given c g.rounds) within (rounds_of s g.given _ g.rounds g.histories g.so)));
  short_is = g.short_is;
  text_is = text_is ∙ lines;
}
  where
    s : Setting
    s = alone_under policy

    all : g.given ≡ generated_records start packets
    all = sym (append-nil g.given) ∙ (ap (λ w. g.given ++ w) (sym (none_left run.workload end)) ∙ g.whole)

    size : first ≡ packets
    size = sym g.count ∙ (ap length all ∙ (length-map (packets_from start 0 packets) whole_record ∙ packets_count start 0 packets))

    within : cuts_within [] first ≡ cuts [] first
    within = all_within first (omega (arith, size, some))

    entries : events ≡ entries_after 0 g.rounds
    entries = events_are ∙ (journals 1 (ports_of policy) g.histories switch.ports g.at.ports ∙ (sym (total_map (λ n. n) length g.histories) ∙ (sym (last_entries (map (λ p. 0) (ports_of policy)) g.rounds (map length g.histories) g.so.chained) ∙ ap (λ n. entries_after n g.rounds) (no_entries (ports_of policy)))))

    lines : five_lines packets run.tally.pass run.tally.drop events run.tally.bytes ≡ summary_text packets g.rounds
    lines = ap₂ (λ t n. five_lines packets t.pass t.drop n t.bytes) g.tally_is entries

-- the summary was put, or a front of it
pub put_well : (start packets : ℕ) (short : Bool) (old new : Outside) (text : List ℕ) (u : ⊤) → Summarizes start packets short text → DoesPut old new text (Ok u) → RunsWorkload start packets old new (end_of short)
put_well start packets true old new text u m p = record { ends = inr (record { text = text; summarizes = m; puts = p.told }); inputs = p.inputs; complained = p.complained; complain_faults = p.complain_faults; puts_later = p.cause.later }
put_well start packets false old new text u m p = record { ends = record { text = text; summarizes = m; puts = p.told }; inputs = p.inputs; complained = p.complained; complain_faults = p.complain_faults; puts_later = p.cause.later }

pub put_part : (start packets : ℕ) (short : Bool) (old new : Outside) (text : List ℕ) (e : Failed) → Summarizes start packets short text → DoesPut old new text (Err e) → RunsWorkload start packets old new end.WriteFault
put_part start packets short old new text e m p = record { ends = (p.cause.failed, record { short = short; text = text; summarizes = m; puts = p.told }); inputs = p.inputs; complained = p.complained; complain_faults = p.complain_faults; puts_later = p.cause.later }

-- nothing was put
pub nothing_put : (start packets : ℕ) (old : Outside) → RunsWorkload start packets old old end.Memory
nothing_put start packets old = record { ends = inl (none_grows old.put); inputs = record { inputs = refl; opens = refl; input_faults = refl }; complained = refl; complain_faults = refl; puts_later = omega arith }
  where
    none_grows : (put : Option (List ℕ)) → Grows put put []
    none_grows None = tt
    none_grows (Some xs) = sym (append-nil xs)
