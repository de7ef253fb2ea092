-- What a call is, case by case. Assumes nothing.
use Prim.Native.Nat.{ℕ, ◌≤◌}
use mathlib.Core.Path.{◌≡◌, refl, sym, subst, ◌∙◌}
use mathlib.Core.List.{List}
use lib.Ieee.{Float}
use Rattle.text.specs.Print.{Wrote}
use Rattle.density.specs.declared.convention.Convention.{Convention}
use Rattle.layout.specs.Layout.{width}
use Rattle.layout.specs.Layers.{all_layers}
use Rattle.store.specs.Calls.{clear_step, reweigh_step}
use Rattle.store.specs.Puts.{put_step_lem}
use Rattle.advance.specs.Steps.{advance_step}
use Rattle.readings.specs.Readings.{read_step, density, report}
use Rattle.forms.specs.declared.line.Put.{Put as Placing}
use Rattle.forms.specs.declared.line.Call.{Call}
use Rattle.forms.specs.declared.line.Call.TheVariants.{Put, Clear, Reweigh, Advance, Density, Report}
use Rattle.calls.specs.Texts.{put_text, density_text, advance_text, clear_text, reweigh_text, report_text}
use Rattle.calls.specs.Calls.{Called, called, looked, call_of}

-- what a call leaves: the runs, and its text from the start of the bytes o
abbrev Made : Called → List Float → List ℕ → List ℕ → ℕ → List ℕ → Type 0
Made x fs ws o r o' =
    record {
      upper_bound : r ≤ 256;
      floats_after : fs ≡ x.floats;
      words_after : ws ≡ x.words;
      wrote : Wrote o 0 x.text r o';
    }

-- the runs and what was written, where another call is made that is the same
pub calling : {x y : Called} {fs : List Float} {ws o o' : List ℕ} {r : ℕ} → x ≡ y → Made y fs ws o r o' → Made x fs ws o r o'
calling {o} {o' = o'} {r} e m =
    record {
      upper_bound = m.upper_bound;
      floats_after = m.floats_after ∙ (λ i. (sym e i).floats);
      words_after = m.words_after ∙ (λ i. (sym e i).words);
      wrote = subst (λ (t : List ℕ). Wrote o 0 t r o') (λ i. (sym e i).text) m.wrote;
    }

-- a call that leaves the store as it is
pub looking : {x : Called} {fs : List Float} {ws t o o' : List ℕ} {r : ℕ} → x ≡ looked fs ws t
    → record { upper_bound : r ≤ 256; wrote : Wrote o 0 t r o' } → Made x fs ws o r o'
looking e m =
    calling e (record { upper_bound = m.upper_bound; floats_after = refl; words_after = refl; wrote = m.wrote })

-- ---- each call
pub put_call_lem : (fs : List Float) (ws : List ℕ) {c : Call} {p : Placing} → c ≡ Put p
    → call_of fs ws c ≡ called (put_text p.place) (put_step_lem width fs ws p.place p.kernel 0)
unfolding call_of
put_call_lem fs ws e = rw (e) refl

pub clear_call : (fs : List Float) (ws : List ℕ) {c : Call} {place : ℕ} → c ≡ Clear place
    → call_of fs ws c ≡ called (clear_text place) (clear_step width fs ws place)
unfolding call_of
clear_call fs ws e = rw (e) refl

pub reweigh_call : (fs : List Float) (ws : List ℕ) {c : Call} {place : ℕ} {w : Float} → c ≡ Reweigh place w →
    call_of fs ws c ≡ called (reweigh_text place) (reweigh_step width fs ws place w)
unfolding call_of
reweigh_call fs ws e = rw (e) refl

pub advance_call : (fs : List Float) (ws : List ℕ) {c : Call} {n : ℕ} → c ≡ Advance n
    → call_of fs ws c ≡ called advance_text (advance_step width fs ws n)
unfolding call_of
advance_call fs ws e = rw (e) refl

pub density_call : (fs : List Float) (ws : List ℕ) {c : Call} {v : Convention} {p : List Float} → c ≡ Density v p →
    call_of fs ws c ≡ looked fs ws (density_text (read_step width fs ws all_layers (density v p)).reply)
unfolding call_of
density_call fs ws e = rw (e) refl

pub report_call : (fs : List Float) (ws : List ℕ) {c : Call} {v : Convention} → c ≡ Report v →
    call_of fs ws c ≡ looked fs ws (report_text (read_step width fs ws all_layers (report v)).reply)
unfolding call_of
report_call fs ws e = rw (e) refl
