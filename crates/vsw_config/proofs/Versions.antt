-- What a file of version 1 may say.
use Rattle.std.proofs.Common.{◌≡◌, ◌∙◌, ℕ, List, true, false, true≢false, Option, Some, None, Result, Ok, Ordering, Less, Equal, Greater, nat_cmp, is_eq, refl, sym, ap, subst}
use Rattle.std.specs.Ordering.{match_ordering}
use Rattle.std.specs.Cmp.Lexicographic.{slice_cmp}
use Rattle.std.proofs.lemmas.Map.Text.{is_eq-slice_cmp}
use Rattle.std.proofs.lemmas.Slice.Eq.{bytes_eq-Decides}
use Rattle.serde_json.specs.Data.{Data, null, boolean, number, string, array, object, Members, no_members, member}
use Rattle.serde_json.specs.Find.{get_member, get}
use Rattle.vsw_base.proofs.Truths.{both}
use Rattle.vsw_base.specs.declared.flow.Set.{Set}
use Rattle.vsw_config.specs.declared.word.Word.{Word}
use Rattle.vsw_config.specs.declared.word.Word.TheVariants as word
use Rattle.vsw_config.specs.declared.fault.Fault.{Fault}
use Rattle.vsw_config.specs.declared.fault.Step.TheVariants.{Member}
use Rattle.vsw_config.specs.Path.{word_text}
use Rattle.vsw_config.specs.Fault.{◌>>=◌, under}
use Rattle.vsw_config.specs.Object.{is_among, are_among, has_names_among, object_among, read_if}
use Rattle.vsw_config.specs.Value.{short_of, mac_in, ip4_in, ip6_in}
use Rattle.vsw_config.specs.Field.{field_for}
use Rattle.vsw_config.specs.Action.{set_words, set_of}
use Rattle.vsw_config.specs.Version.{FirstIsOld}
use Rattle.vsw_config.proofs.Steps.{taken, same_value, passed}

-- a name that isn't among the words isn't that of a member all names of which are
absent_at : (o : Ordering) (words : List Word) (k l : List ℕ) (e : Data) (ms : Members) → slice_cmp nat_cmp k l ≡ o → is_among words k ≡ false → is_among words l ≡ true → get_member k ms ≡ None → match_ordering o (get_member k ms) (Some e) (get_member k ms) ≡ None
absent_at Less words k l e ms is out here rest = rest
absent_at Equal words k l e ms is out here rest =
    let same : k ≡ l = (bytes_eq-Decides k l).0 (sym (is_eq-slice_cmp k l) ∙ ap is_eq is) in
    absurd (true≢false (sym here ∙ (sym (ap (is_among words) same) ∙ out)))
absent_at Greater words k l e ms is out here rest = rest

absent : (words : List Word) (k : List ℕ) (ms : Members) → is_among words k ≡ false → are_among words ms ≡ true → get_member k ms ≡ None
absent words k no_members out all = refl
absent words k (member l e ms) out all =
    let (here, rest) = both (is_among words l) (are_among words ms) all in
    absent_at (slice_cmp nat_cmp k l) words k l e ms refl out here (absent words k ms out rest)

not_there : (words : List Word) (k : List ℕ) (d : Data) → is_among words k ≡ false → has_names_among words d ≡ true → get k d ≡ None
not_there words k null out all = refl
not_there words k (boolean b) out all = refl
not_there words k (number n) out all = refl
not_there words k (string s) out all = refl
not_there words k (array ds) out all = refl
not_there words k (object ms) out all = absent words k ms out all

-- a member that isn't there isn't read
nothing_read : {A : Type 0} (w : Word) (f : Data → Result A Fault) (o : Option Data) (x : Option A) → o ≡ None → ◌≡◌ {A = Result (Option A) Fault} (elim o [ None ↦ Ok None | Some e ↦ under (Member w) (f e) >>= (λ x. Ok (Some x)) ]) (Ok x) → x ≡ None
nothing_read w f None x none h = sym (same_value None x h)
nothing_read w f (Some e) x none h = cc

unread : {A : Type 0} (words : List Word) (w : Word) (d : Data) (f : Data → Result A Fault) (x : Option A) → is_among words (word_text w) ≡ false → has_names_among words d ≡ true → read_if w d f ≡ Ok x → x ≡ None
unfolding read_if
unread words w d f x out all h = nothing_read w f (get (word_text w) d) x (not_there words (word_text w) d out all) h

no_src_ip6 : is_among (set_words 1) (word_text word.SrcIp6) ≡ false
unfolding word_text
no_src_ip6 = refl

no_dst_ip6 : is_among (set_words 1) (word_text word.DstIp6) ≡ false
unfolding word_text
no_dst_ip6 = refl

known : (words : List Word) (d o : Data) → object_among words d ≡ Ok o → has_names_among words o ≡ true
unfolding object_among
known words d o h =
    let (all, same) = passed (has_names_among words d) d o _ h in
    subst (λ e. has_names_among words e ≡ true) same all

plain_set : (d : Data) (s : Set) → set_of 1 d ≡ Ok s → (s.src_ip6 ≡ None) × (s.dst_ip6 ≡ None)
unfolding set_of
plain_set d s h =
    taken (object_among (set_words 1) d) _ s h (λ o names h.
    taken (read_if word.DstMac o mac_in) _ s h (λ dst_mac e h.
    taken (read_if word.SrcMac o mac_in) _ s h (λ src_mac e h.
    taken (read_if word.SrcIp o ip4_in) _ s h (λ src_ip e h.
    taken (read_if word.DstIp o ip4_in) _ s h (λ dst_ip e h.
    taken (read_if word.SrcPort o short_of) _ s h (λ src_port e h.
    taken (read_if word.DstPort o short_of) _ s h (λ dst_port e h.
    taken (read_if word.SrcIp6 o ip6_in) _ s h (λ src_ip6 here h.
    taken (read_if word.DstIp6 o ip6_in) _ s h (λ dst_ip6 there h.
    let all = known (set_words 1) d o names in
    subst (λ (s : Set). (s.src_ip6 ≡ None) × (s.dst_ip6 ≡ None)) (same_value _ s h)
    (unread (set_words 1) word.SrcIp6 o ip6_in src_ip6 no_src_ip6 all here, unread (set_words 1) word.DstIp6 o ip6_in dst_ip6 no_dst_ip6 all there))))))))))

pub first_is_old : FirstIsOld
unfolding field_for
first_is_old = record { fields = λ name. refl; names = refl; edits = plain_set }
