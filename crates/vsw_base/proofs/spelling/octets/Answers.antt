use Rattle.std.proofs.Common.{◌≡◌, ◌∙◌, sym, ap, arith, length, ℕ, List, [], ◌∷◌}
use Rattle.vsw_base.specs.Spelling.{all_of}
use Rattle.vsw_base.proofs.Octets.{pairs_in, with_colons, without_colons, of_less, of_more}
use Rattle.vsw_base.proofs.spelling.octets.Goals as goal

pub returns-in_default : goal.returns-in_default
returns-in_default c = sym (of_less c.args.text.now c.in_default.len_below)

pub returns-in_default-2 : goal.returns-in_default-2
returns-in_default-2 c = sym (of_more c.args.text.now c.in_default.len_at_least)

pub returns-then-not-are_colons : goal.returns-then-not-are_colons
returns-then-not-are_colons c =
    let n : length c.args.text.now ≡ 17 = omega (arith, c.in-len17.len_at_least, c.in-len17.len_below) in
    sym (without_colons c.args.text.now n (sym c.are_colons.ensures ∙ c.if-not-are_colons.true))

pub returns : goal.returns
returns c =
    let t : List ℕ = c.args.text.now in
    let n : length t ≡ 17 = omega (arith, c.in-len17.len_at_least, c.in-len17.len_below) in
    let read : c.octet.result ∷ c.octet-2.result ∷ c.octet-3.result ∷ c.octet-4.result ∷ c.octet-5.result ∷ c.octet-6.result ∷ [] ≡ pairs_in t =
    cc (c.octet.ensures, c.octet-2.ensures, c.octet-3.ensures, c.octet-4.ensures, c.octet-5.ensures, c.octet-6.ensures) in
    c.all.ensures ∙ ap all_of read ∙ sym (with_colons t n (sym c.are_colons.ensures ∙ c.if-not-are_colons.false))
