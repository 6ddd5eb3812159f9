-- An answer is one: two answers that meet the contract of `judge` on the same input are equal.
--     verdict-answer   two answers with one verdict are equal
--     answer-one       so it is
-- Assumes nothing.
use mathlib.Core.List.{List}
use mathlib.Core.Path.{◌≡◌, refl, ap}
use Prim.Native.Nat.{ℕ}
use Rattle.std.specs.Prelude.{Result, Ok, Err}
use Rattle.meaning.specs.Context.{Context}
use Rattle.meaning.specs.Rules.{Clause}
use Rattle.meaning.specs.Grounds.{Step, Conclusion, Verified}
use Rattle.meaning.proofs.Grounded.{verdict-one}
use Rattle.grounds_verdict.specs.Claims.{fault_of, verdict_of}
use Rattle.grounds_verdict.specs.declared.Fault.{Fault}
use Rattle.grounds_verdict.specs.declared.Fault.TheVariants.{Unassigned, Bad, Unconcluded}

fault-one : (x y : Fault) → fault_of x ≡ fault_of y → x ≡ y
fault-one (Unassigned v) (Unassigned w) e = let z : v ≡ w = cc in cc
fault-one (Unassigned v) (Bad n) e = cc
fault-one (Unassigned v) (Unconcluded n) e = cc
fault-one (Bad n) (Unassigned v) e = cc
fault-one (Bad n) (Bad m) e = let z : n ≡ m = cc in cc
fault-one (Bad n) (Unconcluded m) e = cc
fault-one (Unconcluded n) (Unassigned v) e = cc
fault-one (Unconcluded n) (Bad m) e = cc
fault-one (Unconcluded n) (Unconcluded m) e = let z : n ≡ m = cc in cc

pub verdict-answer : (r q : Result (Unit {0}) Fault) → verdict_of r ≡ verdict_of q → r ≡ q
verdict-answer (Ok u) (Ok v) e = refl
verdict-answer (Ok u) (Err (Unassigned v)) e = cc
verdict-answer (Ok u) (Err (Bad n)) e = cc
verdict-answer (Ok u) (Err (Unconcluded n)) e = cc
verdict-answer (Err (Unassigned v)) (Ok u) e = cc
verdict-answer (Err (Bad n)) (Ok u) e = cc
verdict-answer (Err (Unconcluded n)) (Ok u) e = cc
verdict-answer (Err x) (Err y) e = ap Err (fault-one x y e)

pub answer-one : (c : Context) (k : Clause) (a : List ℕ) (steps : List Step) (ds : List Conclusion) (r q : Result (Unit {0}) Fault) → Verified c k a steps ds (verdict_of r)
    → Verified c k a steps ds (verdict_of q)
    → r ≡ q
answer-one c k a steps ds r q v w = verdict-answer r q (verdict-one c k a steps ds (verdict_of r) (verdict_of q) v w)
