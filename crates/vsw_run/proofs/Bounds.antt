-- The numbers of what is read lie within their bounds.
use Rattle.std.proofs.Common.{◌≡◌, ℕ, ◌<◌, ◌≤◌, ◌^◌, List, Option, Some, None, inl, inr, sym, arith}
use Rattle.std.specs.Option.{IfSome, option_map}
use Rattle.vsw_run.specs.Grammar.{IsCount, IsOption, Asks}
use Rattle.vsw_run.specs.Seen.{IsWithin, asked_seen}
use Rattle.vsw_run.specs.Words.{asked_in}
use Rattle.vsw_run.specs.declared.reading.Asked as asked
use Rattle.vsw_run.proofs.Grammars.{reads_grammar}

pub counted : (words : List (List ℕ)) (n : ℕ) → IsOption words n → IsCount n
counted words n (inl o) = o.0
counted words n (inr (inl o)) = o.0
counted words n (inr (inr o)) = (omega (arith, o.0), omega (arith, o.0))

small : (n : ℕ) → n ≤ 2147483647 → n < 2 ^ 31
small n h = omega (arith, h)

asks : (words : List (List ℕ)) (a : asked.Asked) → Some (asked_seen a) ≡ asked_in words → Asks words (asked_seen a)
asks words a e = (reads_grammar words (asked_seen a)).0 (sym e)

pub within : (words : List (List ℕ)) (r : Option asked.Asked) → option_map asked_seen r ≡ asked_in words → IfSome r IsWithin
within words None e = tt
within words (Some (asked.TheVariants.Forward q)) e = let h = asks words (asked.TheVariants.Forward q) e in counted h.3.option q.workers h.3.option_is
within words (Some (asked.TheVariants.Deliver q)) e = let h = asks words (asked.TheVariants.Deliver q) e in counted h.3.option q.workers h.3.option_is
within words (Some (asked.TheVariants.Stream q)) e = let h = asks words (asked.TheVariants.Stream q) e in counted h.3.option q.workers h.3.option_is
within words (Some (asked.TheVariants.Offload q)) e = let h = asks words (asked.TheVariants.Offload q) e in h.3.0
within words (Some (asked.TheVariants.Check q)) e = let h = asks words (asked.TheVariants.Check q) e in counted h.3.option q.run.workers h.3.option_is
within words (Some (asked.TheVariants.Engine q)) e = tt
within words (Some (asked.TheVariants.Generate start packets)) e =
    let h = asks words (asked.TheVariants.Generate start packets) e in (small start h.3.start_is, h.3.packets_are.0, h.3.packets_are.1)
