-- What the program holds is what some bytes leave of the store of zeros: at the start, and after each byte more.
-- Assumes nothing.
use mathlib.Core.Path.{◌≡◌, refl, ap, ◌∙◌, subst⁻¹}
use mathlib.Core.List.{List, [], ◌∷◌, ◌++◌}
use Prim.Native.Nat.{ℕ}
use lib.ListN.{get_or}
use Rattle.base.specs.LoopLaws.{times_keeps}
use Rattle.program.specs.Bytes.{Held, feed_byte, feed_at, held_after}
use Rattle.program.specs.Bench.{held_at_first, fed_all, Reached}

pub at_start : (h : Held) → h ≡ held_at_first → Reached h
unfolding fed_all
at_start h e = record { bytes = []; same = e }

fed_last : (h : Held) (bs : List ℕ) (b : ℕ) → (feed_byte (fed_all h bs) b).next ≡ fed_all h (bs ++ (b ∷ []))
unfolding fed_all
fed_last h [] b = refl
fed_last h (a ∷ bs) b = fed_last (feed_byte h a).next bs b

one_more : (h : Held) (b : ℕ) → Reached h → Reached (feed_byte h b).next
one_more h b r =
    record {
      bytes = r.bytes ++ (b ∷ []);
      same = ap (λ (x : Held). (feed_byte x b).next) r.same ∙ fed_last held_at_first r.bytes b;
    }

pub many_more : {h g : Held} (bytes : List ℕ) (n : ℕ) → g ≡ held_after bytes n h → Reached h → Reached g
many_more {h} bytes n e r =
    subst⁻¹ Reached e
    (times_keeps Reached (feed_at bytes) (feed_at bytes) (λ i s p. refl) (λ i s p. one_more s (get_or bytes i 0) p) n 0 h r)
