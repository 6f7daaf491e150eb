-- The calls of a host in memory, from its fields.
use Rattle.std.proofs.Common.{◌≡◌, ◌<◌, ℕ, ◌+◌, ◌-◌, ◌≤◌, min, true, false, List, Some, Ok, refl, sym, ◌∙◌, subst, arith, inl, inr, length, take, drop, length-append}
use Rattle.std.specs.Prelude.{◌&&◌, not, IsSome, slice_get, nat_lt, Vec}
use Rattle.std.specs.declared.alloc.Global.{Global}
use Rattle.std.proofs.Math.ListN.{length-set}
use Rattle.std.proofs.Math.Bool.{and-false}
use Rattle.std.proofs.lemmas.Bool.{lt-ltb, and_left}
use Rattle.std.proofs.lemmas.Bool.Decides.{nat_tests}
use Rattle.std.proofs.lemmas.List.{length-map}
use Rattle.vsw_host.specs.Outside.{Opened, DoesOpen, DoesRead}
use Rattle.vsw_host.specs.Files.{held}
use Rattle.vsw_host.specs.Memory.{Memory, outside, openings, raised, fails, may_open, next_count, after_open, after_read}
use Rattle.vsw_host.specs.MemoryInside.{seen, opened_of, all_opened, OpensNext, OpensNone, ReadsNext}
use Rattle.vsw_host.specs.declared.opening.Opening.{Opening}
use Rattle.vsw_host.specs.declared.memory_host.MemoryHost.TheInside.{Inside}
use Rattle.vsw_host.proofs.Held.{placed, held-unplaced, all_opened-append, slice_get-all_opened, all_opened-set}

length-all_opened : (s : Inside) → length (all_opened s.files.items s.opened.items) ≡ length s.opened.items
length-all_opened s = length-map s.opened.items (λ (o : Opening). opened_of (slice_get s.files.items o.file) o.read)

pub may_open-opened : (s : Inside) (new : List Opening) (name : List ℕ) (n : ℕ) → fails (seen s) ≡ false → OpensNext s.files.items s.opened.items new name n → true ≡ may_open (seen s) name
may_open-opened s new name n spared o =
    let p = placed s.files.items name o.at o.placed in
    let room : nat_lt (length (all_opened s.files.items s.opened.items)) openings ≡ true = lt-ltb _ _ (omega (arith, length-all_opened s, o.few)) in
    rw (spared, p.held_is, room) refl

pub may_open-refused : (s : Inside) (name : List ℕ) → OpensNone s.files.items s.opened.items name → may_open (seen s) name ≡ false
may_open-refused s name (inl none) = rw (held-unplaced s.files.items name none) (and-false _)
may_open-refused s name (inr full) =
    let room : nat_lt (length (all_opened s.files.items s.opened.items)) openings ≡ false = grind (arith, nat_tests, length-all_opened s, full) in
    rw room (and_left (not (fails (seen s)) && false) _ (and-false _))

-- a file that is held, and for which there is room, isn't refused
pub unrefused : (s : Inside) (name : List ℕ) → OpensNone s.files.items s.opened.items name → length (seen s).opened < openings → IsSome (held s.files.items name) → ⊥
unrefused s name (inl none) few here = let never = rw (held-unplaced s.files.items name none) at here in cc
unrefused s name (inr full) few here = omega (arith, length-all_opened s)

-- a file was opened
pub seen-open : (s : Inside) (new : Vec Opening Global) (calls : ℕ) (name : List ℕ) (n : ℕ) → calls ≡ raised s.calls → OpensNext s.files.items s.opened.items new.items name n → seen (record s { opened = new; calls = calls }) ≡ after_open (seen s) name (Ok n)
seen-open s new calls name n called o = rw (o.added, called, all_opened-append s.files.items s.opened.items name o.at (placed s.files.items name o.at o.placed)) refl

opens : (m : Memory) (name bytes : List ℕ) (n : ℕ) → held m.files name ≡ Some bytes → n ≡ length m.opened → DoesOpen (outside m) (outside (after_open m name (Ok n))) name (Ok n)
opens m name bytes n h number = record {
  told = record { bytes = bytes; held = h; since = record { files = refl; opened = rw h refl }; next = number };
  number = (number, simp length-append);
  cause = record { later = omega arith; failed = tt };
  outputs = record { put = refl; complained = refl; put_faults = refl; complain_faults = refl };
}

pub opens-seen : (s : Inside) (new : Vec Opening Global) (calls : ℕ) (name : List ℕ) (n : ℕ) → calls ≡ raised s.calls → OpensNext s.files.items s.opened.items new.items name n → DoesOpen (outside (seen s)) (outside (seen (record s { opened = new; calls = calls }))) name (Ok n)
opens-seen s new calls name n called o =
    let P : Memory → Type 0 = λ m. DoesOpen (outside (seen s)) (outside m) name (Ok n) in
    let p = placed s.files.items name o.at o.placed in
    subst P (sym (seen-open s new calls name n called o)) (opens (seen s) name p.file.bytes n p.held_is (o.counted ∙ sym (length-all_opened s)))

-- bytes were read
pub seen-read : (s : Inside) (new : Vec Opening Global) (calls number : ℕ) (buffer : List ℕ) (n : ℕ) → calls ≡ raised s.calls → ReadsNext s.files.items s.opened.items new.items s.most number buffer n → seen (record s { opened = new; calls = calls }) ≡ after_read (seen s) number (Ok n)
seen-read s new calls number buffer n called r =
    rw (called, r.moved, slice_get-all_opened s.files.items s.opened.items number r.opening r.file r.found r.held, all_opened-set s.files.items s.opened.items number (r.opening.read + n) r.opening r.file r.held) refl

pub next_count-read : (s : Inside) (new : List Opening) (number : ℕ) (buffer : List ℕ) (n : ℕ) → ReadsNext s.files.items s.opened.items new s.most number buffer n → n ≡ next_count (seen s) number (length buffer)
next_count-read s new number buffer n r = rw (slice_get-all_opened s.files.items s.opened.items number r.opening r.file r.found r.held) r.counted

reads : (m : Memory) → 0 < m.most → (number : ℕ) (buffer : List ℕ) (n : ℕ) (file : Opened) → slice_get m.opened number ≡ Some file → file.read ≤ length file.bytes → n ≡ min (min (length buffer) m.most) (length file.bytes - file.read) → take n buffer ≡ take n (drop file.read file.bytes) → DoesRead (outside m) (outside (after_read m number (Ok n))) number buffer (Ok n)
reads m some number buffer n file found inside counted front = record {
  told = record { file = file; found = found; inside = omega arith; front = front; end = λ zero room. omega arith; files = refl; opened = rw found refl };
  within = omega arith;
  opens = rw found (simp length-set);
  cause = record { later = omega arith; failed = tt };
  outputs = record { put = refl; complained = refl; put_faults = refl; complain_faults = refl };
}

pub reads-seen : (s : Inside) → 0 < s.most → (new : Vec Opening Global) (calls number : ℕ) (buffer : List ℕ) (n : ℕ) → calls ≡ raised s.calls → ReadsNext s.files.items s.opened.items new.items s.most number buffer n → DoesRead (outside (seen s)) (outside (seen (record s { opened = new; calls = calls }))) number buffer (Ok n)
reads-seen s some new calls number buffer n called r =
    let P : Memory → Type 0 = λ m. DoesRead (outside (seen s)) (outside m) number buffer (Ok n) in
    let found = slice_get-all_opened s.files.items s.opened.items number r.opening r.file r.found r.held in
    subst P (sym (seen-read s new calls number buffer n called r)) (reads (seen s) some number buffer n _ found r.inside r.counted r.front)
