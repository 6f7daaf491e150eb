use Rattle.std.proofs.Common.{◌≡◌, ◌∙◌, ◌<◌, ◌*◌, ◌-◌, length, take, drop, List, ℕ, sym, ap, subst, arith, rules, length-drop}
use Rattle.vsw_base.specs.declared.header.Header.{Header}
use Rattle.vsw_base.specs.Shape.{encaps}
use Rattle.vsw_frame.specs.Push.{pushed, AreEncaps}
use Rattle.vsw_frame.proofs.Places.{rest_of}
use Rattle.vsw_frame.proofs.Pushes.{begins, more_written, Begins}
use Rattle.vsw_frame.proofs.push.+write_encaps.Goals as goal

pub write_encaps-requires : goal.write_encaps-requires
write_encaps-requires t c =
    let hs : List Header = c.args.headers.now in
    let out : List ℕ = c.args.out.now in
    let b : Begins hs c.in-Some.outer = begins hs c.in-Some.outer c.requires.whole c.in-Some.ensures in
    let rest : take (length hs - 3) (drop 3 hs) ≡ drop 3 hs = rest_of 3 hs in
    let count : encaps (take (length hs - 3) (drop 3 hs)) ≡ encaps (drop 3 hs) = ap encaps rest in
    let room : length (take (length out - 50) (drop 50 out)) ≡ length out - 50 = ap length (rest_of 50 out) ∙ length-drop 50 out in
    let fewer : length (take (length hs - 3) (drop 3 hs)) < length hs = omega (arith, ap length rest, length-drop 3 hs, b.long) in
    (search (rules, fewer), (subst AreEncaps (sym rest) b.more, (omega (arith, b.count, count, room), λ h. omega (arith, c.requires.fits (omega (arith, b.count)), room))))

pub write_encap-requires-clause-room : goal.write_encap-requires-clause-room
write_encap-requires-clause-room t c =
    let hs : List Header = c.args.headers.now in
    let b : Begins hs c.in-Some.outer = begins hs c.in-Some.outer c.requires.whole c.in-Some.ensures in
    omega (arith, b.count)

pub returns : goal.returns
returns t c =
    let hs : List Header = c.args.headers.now in
    let out : List ℕ = c.args.out.now in
    let b : Begins hs c.in-Some.outer = begins hs c.in-Some.outer c.requires.whole c.in-Some.ensures in
    record {
      written = more_written c.args.port hs c.in-Some.outer out c.write_encaps.new.out c.write_encap.new.out b (omega (arith, b.count)) (c.write_encaps.ensures.written ∙ ap (λ (l : List Header). pushed c.args.port l (drop (50 * encaps l) (take (length out - 50) (drop 50 out)))) (rest_of 3 hs)) c.write_encap.ensures;
    }

pub write_encap-requires-clause-fits : goal.write_encap-requires-clause-fits
write_encap-requires-clause-fits t c =
    let hs : List Header = c.args.headers.now in
    let b : Begins hs c.in-Some.outer = begins hs c.in-Some.outer c.requires.whole c.in-Some.ensures in
    omega (arith, b.count, c.requires.fits (omega (arith, b.count)))
