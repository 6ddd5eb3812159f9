-- One answer: two that meet the reader's promise for a text are equal.
--     reads-one
-- Assumes nothing.
use mathlib.Core.List.{List}
use mathlib.Core.Path.{◌≡◌, refl, sym, ap, ◌∙◌}
use Prim.Native.Nat.{ℕ}
use native.Mathlib.Omega.{arith}
use Rattle.text_runs.specs.Reads.{told_by, Holds, Reads}
use Rattle.std.specs.Prelude.{Result, Ok, Err}
use Rattle.replies.specs.declared.Refusal.{Refusal}
use Rattle.text_runs.specs.declared.Filled.{Filled}
use Rattle.text_runs.specs.declared.Told.{Told}

told-one : (a b : Result (Unit {0}) Refusal) → told_by a ≡ told_by b → a ≡ b
told-one (Ok u) (Ok v) e = refl
told-one (Ok u) (Err y) e = absurd (let z : ◌≡◌ {A = ℕ} 0 1 = cc in omega arith)
told-one (Err x) (Ok v) e = absurd (let z : ◌≡◌ {A = ℕ} 0 1 = cc in omega arith)
told-one (Err x) (Err y) e =
    let n : x.number ≡ y.number = cc in
    let l : x.line ≡ y.line = cc in
    let o : x.offset ≡ y.offset = cc in
    ap Err (rw (n, l, o))

module _ {A : Type 0} {numbers : A → List ℕ} {places : ℕ} {l : List A} {run other : List ℕ} {n m : ℕ} where
  run-one : Holds numbers places l run n → Holds numbers places l other m → run ≡ other
  run-one p q = p.run_is ∙ sym q.run_is

  filled-one : Holds numbers places l run n → Holds numbers places l other m → n ≡ m
  filled-one p q = p.filled_is ∙ sym q.filled_is

pub reads-one : (text : List ℕ) (r s : Told) → Reads text r → Reads text s → r ≡ s
reads-one text r s p q =
    let a : r.answer ≡ s.answer = told-one r.answer s.answer (p.told ∙ sym q.told) in
    let f : r.filled ≡ s.filled = filled in
    let b : r.rows ≡ s.rows = run-one p.rows q.rows in
    let c : r.said ≡ s.said = run-one p.said q.said in
    let d : r.patterns ≡ s.patterns = run-one p.patterns q.patterns in
    let e : r.literals ≡ s.literals = run-one p.literals q.literals in
    whole a f b c d e
  where
    filled : r.filled ≡ s.filled
    filled =
        let b : r.filled.rows ≡ s.filled.rows = filled-one p.rows q.rows in
        let c : r.filled.said ≡ s.filled.said = filled-one p.said q.said in
        let d : r.filled.patterns ≡ s.filled.patterns = filled-one p.patterns q.patterns in
        let e : r.filled.literals ≡ s.filled.literals = filled-one p.literals q.literals in
        ap (λ (x : ℕ). record { rows = x; said = r.filled.said; patterns = r.filled.patterns; literals = r.filled.literals }) b
        ∙ ap (λ (x : ℕ). record { rows = s.filled.rows; said = x; patterns = r.filled.patterns; literals = r.filled.literals }) c
        ∙ ap (λ (x : ℕ). record { rows = s.filled.rows; said = s.filled.said; patterns = x; literals = r.filled.literals }) d
        ∙ ap (λ (x : ℕ). record { rows = s.filled.rows; said = s.filled.said; patterns = s.filled.patterns; literals = x }) e

    whole : r.answer ≡ s.answer → r.filled ≡ s.filled → r.rows ≡ s.rows → r.said ≡ s.said → r.patterns ≡ s.patterns → r.literals ≡ s.literals
        → r ≡ s
    whole a f b c d e =
        ap (λ (x : Result (Unit {0}) Refusal). record { answer = x; filled = r.filled; rows = r.rows; said = r.said; patterns = r.patterns; literals = r.literals }) a
        ∙ ap (λ (x : Filled). record { answer = s.answer; filled = x; rows = r.rows; said = r.said; patterns = r.patterns; literals = r.literals }) f
        ∙ ap (λ (x : List ℕ). record { answer = s.answer; filled = s.filled; rows = x; said = r.said; patterns = r.patterns; literals = r.literals }) b
        ∙ ap (λ (x : List ℕ). record { answer = s.answer; filled = s.filled; rows = s.rows; said = x; patterns = r.patterns; literals = r.literals }) c
        ∙ ap (λ (x : List ℕ). record { answer = s.answer; filled = s.filled; rows = s.rows; said = s.said; patterns = x; literals = r.literals }) d
        ∙ ap (λ (x : List ℕ). record { answer = s.answer; filled = s.filled; rows = s.rows; said = s.said; patterns = s.patterns; literals = x }) e
