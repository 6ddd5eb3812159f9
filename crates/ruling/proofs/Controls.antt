-- The order of the refusals tried: 8 comes before 9.
--     some-eight, no_nine            a rule without a literal is refused by 8, and not by 9, whatever its context says
--     some-eight-ruled, no-nine-ruled    and so it is ruled, with a contradiction
-- Assumes nothing.
use mathlib.Core.List.{[]}
use mathlib.Core.Path.{◌≡◌, refl, ap}
use Prim.Native.Nat.{ℕ}
use native.Mathlib.Omega.{arith}
use Rattle.meaning.specs.Context.{Context}
use Rattle.meaning.specs.Rules.{Clause}
use Rattle.meaning.specs.Text as M
use Rattle.meaning.specs.Replies.{Judged, empty, refused, refusal}
use Rattle.meaning.proofs.Answered.{judged-one}
use Rattle.std.specs.Prelude.{Result, Ok, Err, Some}
use Rattle.replies.specs.declared.Refusal.{Refusal}
use Rattle.ruling.specs.Order.{ruled_by}
use Rattle.ruling.proofs.Ruling.{refused-one}

pub some-eight : (c : Context) (k : Clause) → k.literals ≡ [] → Judged c k (refused (refusal 8 0))
some-eight c k e = empty e

pub no_nine : (c : Context) (k : Clause) (n : ℕ) → k.literals ≡ [] → Judged c k (refused (refusal 9 n)) → ⊥
no_nine c k n e j =
    let z : ◌≡◌ {A = ℕ} 8 9 = ap (λ (f : M.Refusal). f.number) (refused-one (refusal 8 0) (refusal 9 n) (judged-one c k (refused (refusal 8 0)) (refused (refusal 9 n)) (some-eight c k e) j)) in
    omega arith

pub some-eight-ruled : ruled_by (Ok tt) 0 (Some 0) ≡ Err (record { number = 8; line = 0; offset = 0 })
some-eight-ruled = refl

abbrev number_of : Result (Unit {0}) Refusal → ℕ
number_of (Ok u) = 0
number_of (Err x) = x.number

pub no-nine-ruled : ruled_by (Ok tt) 0 (Some 0) ≡ Err (record { number = 9; line = 1; offset = 0 }) → ⊥
no-nine-ruled e = let z : ◌≡◌ {A = ℕ} 8 9 = ap number_of e in omega arith
