-- Bytes written over a part of the run. Assumes nothing.
use Rattle.std.proofs.Common.{◌≡◌, ◌+◌, ◌-◌, length, take, refl, arith, drop-drop, append_assoc}
use Rattle.std.proofs.lemmas.List.Edits.{sets-eq}
use Rattle.text.proofs.write.write_bytes.Goals as goal

pub returns : goal.returns
returns c =
    let p = c.args.p.now in
    let at = c.args.at in
    let out = c.args.out.now in
    let e = sets-eq p out at c.requires in
    let g : at + length p - at ≡ length p = omega arith in
    record {
      next = refl;
      run = rw (e, c.copy_from_slice.ensures.after, g, drop-drop (length p) at out, append_assoc (take at out) p _) refl;
    }
