-- What was written for a call's answer is that answer's line. Assumes nothing.
use Prim.Native.Nat.{ℕ}
use mathlib.Core.Path.{◌≡◌, refl, sym, subst, ◌∙◌}
use mathlib.Core.List.{List, []}
use lib.Ieee.{Float}
use Rattle.base.specs.Refusals.{number}
use Rattle.base.specs.RefusalLaws.{never-zero}
use Rattle.base.specs.Answers.{Answer, measured_as, done_as, Outcome, outcome}
use Rattle.base.specs.declared.refusal.Refusal.{Refusal}
use Rattle.text.specs.Form.{print, ◌&◌}
use Rattle.text.specs.Print.{Wrote}
use Rattle.store.specs.declared.open.Opened.{Opened}
use Rattle.store.specs.declared.put.Placed.{Placed}
use Rattle.advance.specs.declared.advance.Advanced.{Advanced}
use Rattle.reports.specs.declared.reports.Totals.{Totals}
use Rattle.std.specs.Prelude.{Result, Ok, Err}
use Rattle.layout.specs.After.{After, after}
use Rattle.store.specs.OpenAnswer.{opened}
use Rattle.store.specs.PutAnswer.{placed}
use Rattle.advance.specs.AdvanceAnswer.{advanced}
use Rattle.reports.specs.ReportAnswer.{report_read}
use Rattle.answers.specs.Answers.{open_answer, put_answer, density_answer, advance_answer, clear_answer, reweigh_answer, report_answer, report_in}
use Rattle.calls.specs.Texts.{lined, no_text, open_text, put_text, density_text, advance_text, clear_text, reweigh_text, report_text}

-- a text that is another one
wrote_as : {o t u o' : List ℕ} {at r : ℕ} → t ≡ u → Wrote o at t r o' → Wrote o at u r o'
wrote_as {o} {o' = o'} {at} {r} e w = subst (λ (l : List ℕ). Wrote o at l r o') e w

-- a call that answers a, whose text is t, leaves the store and writes the text that its definition says
pub answering : (text : Answer → List ℕ) {a : Answer} {s : After} {fs : List Float} {ws t o o' : List ℕ} {r : ℕ} →
    text a ≡ t → after a fs ws ≡ s → Wrote o 0 t r o'
    → (fs ≡ s.floats) × ((ws ≡ s.words) × Wrote o 0 (text s.reply) r o')
answering text u e w = ((λ i. (e i).floats), ((λ i. (e i).words), wrote_as (sym u ∙ (λ i. text (e i).reply)) w))

-- a reading that answers a, whose text is t, writes the text that its definition says
pub reading : (text : Answer → List ℕ) {a : Answer} {s : Outcome} {t o o' : List ℕ} {r : ℕ} →
    text a ≡ t → outcome a [] ≡ s → Wrote o 0 t r o' → Wrote o 0 (text s.reply) r o'
reading text u e w = wrote_as (sym u ∙ (λ i. text (e i).reply)) w

-- ---- the text of an answer that is accepted, and of one that is refused
pub open_done : {x : Result Opened Refusal} {m : Opened} → x ≡ Ok m
    → open_text (opened x) ≡ lined (print open_answer (m.verts & m.faces & tt))
unfolding open_text
open_done e = rw (e) refl

pub open_refused : {x : Result Opened Refusal} {r : Refusal} → x ≡ Err r → open_text (opened x) ≡ no_text (number r)
unfolding open_text
open_refused {r} e = rw (e, never-zero r) refl

pub put_done : (place : ℕ) {x : Result Placed Refusal} {p : Placed} → x ≡ Ok p
    → put_text place (placed x) ≡ lined (print put_answer (place & p.pieces & p.steps & tt))
unfolding put_text
put_done place e = rw (e) refl

pub put_refused : (place : ℕ) {x : Result Placed Refusal} {r : Refusal} → x ≡ Err r
    → put_text place (placed x) ≡ no_text (number r)
unfolding put_text
put_refused place {r} e = rw (e, never-zero r) refl

pub clear-done : (place : ℕ) {x : Result (Unit {0}) Refusal} {u : Unit {0}} → x ≡ Ok u
    → clear_text place (done_as x) ≡ lined (print clear_answer (place & tt))
unfolding clear_text
clear-done place e = rw (e) refl

pub clear-refused : (place : ℕ) {x : Result (Unit {0}) Refusal} {r : Refusal} → x ≡ Err r
    → clear_text place (done_as x) ≡ no_text (number r)
unfolding clear_text
clear-refused place {r} e = rw (e, never-zero r) refl

pub reweigh_done : (place : ℕ) {x : Result (Unit {0}) Refusal} {u : Unit {0}} → x ≡ Ok u
    → reweigh_text place (done_as x) ≡ lined (print reweigh_answer (place & tt))
unfolding reweigh_text
reweigh_done place e = rw (e) refl

pub reweigh_refused : (place : ℕ) {x : Result (Unit {0}) Refusal} {r : Refusal} → x ≡ Err r
    → reweigh_text place (done_as x) ≡ no_text (number r)
unfolding reweigh_text
reweigh_refused place {r} e = rw (e, never-zero r) refl

pub advance_done : {x : Result Advanced Refusal} {s : Advanced} → x ≡ Ok s
    → advance_text (advanced x) ≡ lined (print advance_answer (s.done & s.left & tt))
unfolding advance_text
advance_done e = rw (e) refl

pub advance_refused : {x : Result Advanced Refusal} {r : Refusal} → x ≡ Err r → advance_text (advanced x) ≡ no_text (number r)
unfolding advance_text
advance_refused {r} e = rw (e, never-zero r) refl

pub density_done : {x : Result Float Refusal} {v : Float} → x ≡ Ok v
    → density_text (measured_as x) ≡ lined (print density_answer (v & tt))
unfolding density_text
density_done e = rw (e) refl

pub density_refused : {x : Result Float Refusal} {r : Refusal} → x ≡ Err r
    → density_text (measured_as x) ≡ no_text (number r)
unfolding density_text
density_refused {r} e = rw (e, never-zero r) refl

pub report_done : {x : Result Totals Refusal} {s : Totals} → x ≡ Ok s
    → report_text (report_read x) ≡ lined (print report_answer (report_in s.mass s.filled s.pieces s.error))
unfolding report_text
report_done e = rw (e) refl

pub report_refused : {x : Result Totals Refusal} {r : Refusal} → x ≡ Err r
    → report_text (report_read x) ≡ no_text (number r)
unfolding report_text
report_refused {r} e = rw (e, never-zero r) refl
