-- Lines that are replayed are a round.
use Rattle.std.proofs.Common.{◌≡◌, ◌+◌, ◌-◌, ℕ, suc, List, [], ◌∷◌, ◌++◌, length, take, refl, ap, sym, subst, ◌∙◌, arith, append_assoc, length-append}
use Rattle.vsw_port.specs.declared.event.Event.{Event}
use Rattle.vsw_port.specs.Calls.{AreShares, Call, HasBytes, InOrder, IsOneOrder, entries_of}
use Rattle.vsw_port.specs.History.{Opening}
use Rattle.vsw_port.specs.Next.{Goes}
use Rattle.vsw_port.proofs.Calls.{entries_append}
use Rattle.vsw_port.proofs.Fronts.{append_end}
use Rattle.vsw_port.proofs.Next.{goes_none, goes_on, shares_of, take_front}
use Rattle.vsw_promise.proofs.PortRounds.{take_whole}
use Rattle.vsw_promise.specs.Rounds.{opening_of}
use Rattle.vsw_many.proofs.Orders.{each_same, one_order, order_is_free, shares_same}
use Rattle.vsw_audit.specs.Replay.{ReplayIsSound, Runs}

pub goes_all : (o : Opening) (h mid : List Event) (done cs : List Call) → Goes o h mid done → Runs o mid cs → Goes o h (mid ++ entries_of cs) (done ++ cs)
goes_all o h mid done [] g r = subst (λ m. Goes o h m (done ++ [])) (sym (append_end mid)) (subst (λ d. Goes o h mid d) (sym (append_end done)) g)
goes_all o h mid done (c ∷ cs) g r =
    let rest = goes_all o h (mid ++ entries_of (c ∷ [])) (done ++ c ∷ []) cs (goes_on o h mid done c g r.0) r.1 in
    let grown : (mid ++ entries_of (c ∷ [])) ++ entries_of cs ≡ mid ++ entries_of (c ∷ cs) = append_assoc mid (entries_of (c ∷ [])) (entries_of cs) ∙ ap (λ w. mid ++ w) (sym (entries_append (c ∷ []) cs)) in
    subst (λ m. Goes o h m (done ++ c ∷ cs)) grown (subst (λ d. Goes o h ((mid ++ entries_of (c ∷ [])) ++ entries_of cs) d) (append_assoc done (c ∷ []) cs) rest)

pub take_more : {A : Type 0} (xs ys : List A) (n : ℕ) → take (length xs + n) (xs ++ ys) ≡ xs ++ take n ys
take_more {A} [] ys n = ap (λ m. take m ys) sum
  where
    sum : 0 + n ≡ n
    sum = omega arith
take_more {A} (x ∷ xs) ys n =
    let next : suc (length xs) + n ≡ suc (length xs + n) = omega arith in
    ap (λ m. take m (x ∷ (xs ++ ys))) next ∙ ap (λ (w : List A). x ∷ w) (take_more xs ys n)

pub replay_is_sound : ReplayIsSound
replay_is_sound workers p h jobs r right s =
    let o : Opening = opening_of p in
    let cs : List Call = s.calls in
    let ds : List Call = s.first ++ s.later in
    let es : List Event = entries_of cs in
    let g : List Event = h ++ es in
    let goes : Goes o h g cs = goes_all o h h [] cs (goes_none o h right) s.runs in
    let shares : AreShares o h g cs = shares_of o h g cs goes in
    let theirs : AreShares o h g ds = shares_same o h g cs ds s.same shares in
    let begins : take r.before g ≡ h = ap (λ n. take n g) s.low ∙ take_front h es in
    let ends : take r.after g ≡ g = ap (λ n. take n g) s.high ∙ take_whole g in
    let more : length g ≡ length h + length es = length-append h es in
    let turn : workers ≡ 1 → IsOneOrder h g ds = λ e. one_order o h g ds (es, refl) theirs (subst (λ n. InOrder n ds (length g)) s.low (subst (λ n. InOrder r.before ds n) s.high (s.one e))) in (
      record {
        port = s.port;
        low = omega (arith, s.low, s.high, more);
        high = omega (arith, s.high);
        first = s.first;
        later = s.later;
        first_jobs = s.first_jobs;
        later_jobs = s.later_jobs;
        shares = subst (λ w. AreShares o w (take r.after g) ds) (sym begins) (subst (λ w. AreShares o h w ds) (sym ends) theirs);
        bytes = each_same (HasBytes o g) p.controllers cs ds s.same goes.bytes;
        first_entries = ap (λ n. take (n + length (entries_of s.first)) g) s.low ∙ (take_more h es (length (entries_of s.first)) ∙ (ap (λ w. h ++ w) s.lead ∙ ap (λ w. w ++ entries_of s.first) (sym begins)));
        later_counts = s.behind;
        one = λ e. subst (λ w. IsOneOrder w (take r.after g) ds) (sym begins) (subst (λ w. IsOneOrder h w ds) (sym ends) (turn e));
        lines = sym s.order ∙ sym (order_is_free o h g cs ds r.before (r.after - r.before) shares s.same);
      },
      goes.right,
    )
