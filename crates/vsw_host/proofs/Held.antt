-- Files that are found by their names, and openings of them.
use Rattle.std.proofs.Common.{◌≡◌, ℕ, ◌≤◌, List, [], ◌∷◌, ◌++◌, Some, None, refl, ◌∙◌, ap, arith, get_or, length}
use Rattle.std.specs.Prelude.{slice_get, slice_set, option_map, nat_lt, unwrap_or, cond}
use Rattle.std.specs.List.{position_or_len}
use Rattle.std.proofs.lemmas.List.Folds.{find_at}
use Rattle.std.proofs.lemmas.List.Quantifiers.{position-Some}
use Rattle.std.proofs.lemmas.Option.{slice_get-get_or, slice_get_past, slice_get-map, cond_some}
use Rattle.std.proofs.lemmas.List.{map-append, map-set}
use Rattle.std.proofs.lemmas.Slice.Eq.{bytes_eq-Decides}
use Rattle.std.proofs.lemmas.Bool.Decides.{nat_tests}
use Rattle.vsw_host.specs.Outside.{Opened}
use Rattle.vsw_host.specs.Files.{is_named, place, held}
use Rattle.vsw_host.specs.MemoryInside.{opened_of, all_opened}
use Rattle.vsw_host.specs.declared.memory_file.MemoryFile.{MemoryFile}
use Rattle.vsw_host.specs.declared.opening.Opening.{Opening}

-- the file at the place of a name
pub record Placed (files : List MemoryFile) (name : List ℕ) (i : ℕ) : Type 0 where
  pub file : MemoryFile
  pub found : slice_get files i ≡ Some file
  pub named : file.name ≡ name
  pub held_is : held files name ≡ Some file.bytes

pub placed : (files : List MemoryFile) (name : List ℕ) (i : ℕ) → place files name ≡ Some i → Placed files name i
placed [] name i e = absurd cc
placed (g ∷ gs) name i e =
    let h = position-Some (is_named name) (g ∷ gs) i g e in
    let at = cond_some (nat_lt (position_or_len (is_named name) (g ∷ gs)) (length (g ∷ gs))) (position_or_len (is_named name) (g ∷ gs)) i e in
    let found = slice_get-get_or (g ∷ gs) i g h.0 in
    record {
      file = get_or (g ∷ gs) i g;
      found = found;
      named = (bytes_eq-Decides _ _).0 h.1;
      held_is = ap (option_map (λ (f : MemoryFile). f.bytes)) (find_at (is_named name) (g ∷ gs) ∙ ap (slice_get (g ∷ gs)) at.1 ∙ found);
    }

past : (k n : ℕ) → cond (nat_lt k n) (Some k) None ≡ None → n ≤ k
past k n e = grind (arith, nat_tests, e)

pub held-unplaced : (files : List MemoryFile) (name : List ℕ) → place files name ≡ None → held files name ≡ None
held-unplaced files name e = ap (option_map (λ (f : MemoryFile). f.bytes)) (find_at (is_named name) files ∙ slice_get_past files (position_or_len (is_named name) files) (past _ _ e))

-- one more opening
pub all_opened-append : (files : List MemoryFile) (os : List Opening) (name : List ℕ) (i : ℕ) → Placed files name i → all_opened files (os ++ record { file = i; read = 0 } ∷ []) ≡ all_opened files os ++ record { name = name; bytes = unwrap_or (held files name) []; read = 0 } ∷ []
all_opened-append files os name i p =
    let new : opened_of (slice_get files i) 0 ≡ record { name = name; bytes = unwrap_or (held files name) []; read = 0 } = rw (p.found, p.held_is, p.named) refl in
    map-append (λ (o : Opening). opened_of (slice_get files o.file) o.read) os (record { file = i; read = 0 } ∷ []) ∙ ap (λ (x : Opened). all_opened files os ++ x ∷ []) new

-- an opening that is known
pub slice_get-all_opened : (files : List MemoryFile) (os : List Opening) (number : ℕ) (o : Opening) (f : MemoryFile) → slice_get os number ≡ Some o → slice_get files o.file ≡ Some f → slice_get (all_opened files os) number ≡ Some (record { name = f.name; bytes = f.bytes; read = o.read })
slice_get-all_opened files os number o f found held_is =
    slice_get-map (λ (x : Opening). opened_of (slice_get files x.file) x.read) os number ∙ rw (found, held_is) refl

-- an opening that was moved on
pub all_opened-set : (files : List MemoryFile) (os : List Opening) (number read : ℕ) (o : Opening) (f : MemoryFile) → slice_get files o.file ≡ Some f → all_opened files (slice_set os number (record o { read = read })) ≡ slice_set (all_opened files os) number (record { name = f.name; bytes = f.bytes; read = read })
all_opened-set files os number read o f held_is =
    map-set (λ (x : Opening). opened_of (slice_get files x.file) x.read) os number (record o { read = read }) ∙ rw held_is refl
