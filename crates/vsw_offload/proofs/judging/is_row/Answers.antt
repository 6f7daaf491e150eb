use Rattle.std.proofs.Common.{◌∙◌, sym, arith, refl}
use Rattle.vsw_offload.proofs.Judged.{body_read, fits_read, id_read, row_made, words_read}
use Rattle.vsw_offload.proofs.judging.is_row.Goals as goal

pub returns-then-not-identity_in-clause-back : goal.returns-then-not-identity_in-clause-back
returns-then-not-identity_in-clause-back c r = (id_read c.args.words.now _ c.identity_in.new.out c.if-not-identity_in.ensures.back r).0

pub returns-then-not-body_in-clause-back : goal.returns-then-not-body_in-clause-back
returns-then-not-body_in-clause-back c r = (body_read c.args.words.now _ c.body_in.new.out c.if-not-body_in.ensures.back r).0

pub returns-then-not-suits-clause-back : goal.returns-then-not-suits-clause-back
returns-then-not-suits-clause-back c r = c.if-not-suits.ensures.back (fits_read c.args.words.now c.identity_in.result c.body_in.result c.identity_in.new.out c.body_in.new.out c.identity_in.ensures.back c.body_in.ensures.back r)

pub returns-clause-told : goal.returns-clause-told
returns-clause-told c e below =
    row_made c.args.words.now c.identity_in.new.out c.body_in.new.out (omega (arith, c.told-words)) below (c.if-not-identity_in.ensures.told refl).0 c.row_of.ensures.body (c.if-not-suits.ensures.told refl) (sym c.row_of.ensures.words ∙ c.are_same.ensures.told e)

pub returns-clause-back : goal.returns-clause-back
returns-clause-back c r = c.are_same.ensures.back (c.row_of.ensures.words ∙ words_read c.args.words.now c.identity_in.result c.body_in.result c.identity_in.new.out c.body_in.new.out c.identity_in.ensures.back c.body_in.ensures.back r)
