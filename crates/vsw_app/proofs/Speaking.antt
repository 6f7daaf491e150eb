-- Words that are complained piece by piece.
use Rattle.std.proofs.Common.{refl, ◌≡◌, ◌+◌, ◌≤◌, inl, inr, List, ℕ, ◌++◌, Result, Ok, Err, length, min, sym, ◌∙◌, subst, arith, append_assoc}
use Rattle.std.specs.Prelude.{⊤, codes}
use Rattle.vsw_host.specs.Outside.{Outside, Grows, SameInputs}
use Rattle.vsw_host.specs.declared.host.Failed.{Failed}
use Rattle.vsw_config.specs.Path.{step_text}
use Rattle.vsw_config.specs.declared.fault.Step.{Step}
use Rattle.vsw_config.specs.declared.fault.Step.TheVariants.{Member, Place}
use Rattle.vsw_run.specs.Complaint.{Complains}
use Rattle.vsw_app.specs.Speaks.{Says, Speaks, KeepsPut, name_text}
use Rattle.vsw_files.proofs.Growing.{grows_then, front_then, front_more, rose_from}

same_inputs : (a b c : Outside) → SameInputs a b → SameInputs b c → SameInputs a c
same_inputs a b c p q = record { inputs = q.inputs ∙ p.inputs; opens = q.opens ∙ p.opens; input_faults = q.input_faults ∙ p.input_faults }

keeps_put : (a b c : Outside) → KeepsPut a b → KeepsPut b c → KeepsPut a c
keeps_put a b c p q = record { put = q.put ∙ p.put; put_faults = q.put_faults ∙ p.put_faults }

says_then : (a b c : Outside) (xs ys : List ℕ) (r : Result ⊤ Failed) → Grows a.complained b.complained xs → a.complain_faults ≤ b.complain_faults → Says b c ys r → Says a c (xs ++ ys) r
says_then a b c xs ys (Ok u) g l s = grows_then a.complained b.complained c.complained xs ys g s
says_then a b c xs ys (Err e) g l s = (length xs + s.0, front_then a.complained b.complained c.complained xs ys s.0 g s.1, rose_from a.complain_faults b.complain_faults c.complain_faults l s.2)

-- more words after those that were said
pub speaks_then : (a b c : Outside) (xs ys : List ℕ) (r : Result ⊤ Failed) (u : ⊤) → Speaks a b xs (Ok u) → Speaks b c ys r → Speaks a c (xs ++ ys) r
speaks_then a b c xs ys r u p q = record {
  says = says_then a b c xs ys r p.says p.later q.says;
  later = omega (arith, p.later, q.later);
  inputs = same_inputs a b c p.inputs q.inputs;
  put = keeps_put a b c p.put q.put;
}

-- or none, where those failed
pub speaks_part : (a b : Outside) (xs ys : List ℕ) (e f : Failed) → Speaks a b xs (Err e) → Speaks a b (xs ++ ys) (Err f)
speaks_part a b xs ys e f p = record {
  says = (min p.says.0 (length xs), front_more a.complained b.complained xs ys p.says.0 p.says.1, p.says.2);
  later = p.later;
  inputs = p.inputs;
  put = p.put;
}

pub speaks_is : (a b : Outside) (xs ys : List ℕ) (r : Result ⊤ Failed) → xs ≡ ys → Speaks a b xs r → Speaks a b ys r
speaks_is a b xs ys r same s = let P : List ℕ → Type 0 = λ t. Speaks a b t r in subst P same s

-- texts that were said from the last of four on
pub four : (xs ys zs ws : List ℕ) → xs ++ (ys ++ (zs ++ ws)) ≡ xs ++ ys ++ zs ++ ws
four xs ys zs ws = sym (append_assoc (xs ++ ys) zs ws ∙ append_assoc xs ys (zs ++ ws))

pub three : (xs ys zs : List ℕ) → xs ++ (ys ++ zs) ≡ xs ++ ys ++ zs
three xs ys zs = sym (append_assoc xs ys zs)

-- the text of a value, which is known by its kind
pub speaks_of : (A : Type 0) (text : A → List ℕ) (a b : Outside) (e f : A) (r : Result ⊤ Failed) → e ≡ f → Speaks a b (text f) r → Speaks a b (text e) r
speaks_of A text a b e f r same s = let P : A → Type 0 = λ g. Speaks a b (text g) r in subst P (sym same) s

-- the words of a complaint were said, or a front of them
pub complains_of : (a b : Outside) (xs : List ℕ) (r : Result ⊤ Failed) → Speaks a b xs r → Complains a b xs
complains_of a b xs (Ok u) s = inl s.says
complains_of a b xs (Err e) s = inr s.says

-- a step is a slash and its name
pub step_is : (s : Step) → codes "/" ++ name_text s ≡ step_text s
step_is (Member w) = refl
step_is (Place n) = refl
