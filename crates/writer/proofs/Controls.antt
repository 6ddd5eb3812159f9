-- The writer's claims tried: refusal 10 comes where there is no room, also where there is no breach, and not where there is; grounds are few for each owner.
--     some-ten, no_none    one place too few, and no breach
--     some-none, no-ten    places enough, and no breach
--     no-crowded           16,385 steps of one literal, though there may be 278,528 in all
--     some-breach          what is answered to the lullaby of the sheet, by whatever writer meets the claim
--     no-always-none, no-always-refused, no-stepless    a writer that tells none there, that refuses, that writes no step
-- Assumes nothing.
use mathlib.Core.List.{List, [], ◌∷◌}
use mathlib.Core.Path.{◌≡◌, refl, sym, ap, ◌∙◌, subst}
use Prim.Native.Nat.{ℕ, ◌+◌, ◌-◌, ◌≤◌}
use native.Mathlib.Omega.{arith}
use lib.ListN.{length}
use Rattle.meaning.specs.Rules.{Literal, equal, unequal, Clause, found, nothing}
use Rattle.meaning.specs.Text.{narrow, Read, Reading, taken, read}
use Rattle.meaning.specs.Replies as M
use Rattle.meaning.specs.Replies.{Reply, breach, none, refused, refusal, places_of, Judged, Replies, RepliesTo}
use Rattle.meaning.specs.Context.{Context}
use Rattle.meaning.specs.Grounds.{step_at, Each, Conclusion, conclusion_for, literal_at, Concludes, Verdict, accepted, Verified, accepts, unassigns, refuses, leaves-open}
use Rattle.grounds_steps.specs.Steps.{steps_of, most_each, most_steps}
use Rattle.replies.specs.declared.Refusal.{Refusal}
use Rattle.replies.specs.Told.{told_of}
use Rattle.replies.specs.declared.Outcome.TheVariants as O
use Rattle.finder.proofs.Judging.{told-one}
use Rattle.grounds_judgement.specs.Claims.{concluded_in}
pub use Rattle.grounds_judgement.proofs.Controls.{lullaby, lullaby-short, lullaby-breach}
use Rattle.grounds_batches.proofs.Owned.{owned-each}
use Rattle.writer.specs.Claims.{Answers, lacks, replies, steps_in, Shown, ShownFor, Leaves, Writes}
use Rattle.writer.specs.declared.Grounds.{Grounds}
use Rattle.writer.proofs.Answers.{answers_one}

pub some-ten : (text : List ℕ) → Replies narrow text none → Answers text (most_steps - 1) (refused (refusal 10 0))
some-ten text w = lacks nothing w (omega arith)

pub no_none : (text : List ℕ) → Replies narrow text none → Answers text (most_steps - 1) none → ⊥
no_none text w a =
    let e : none ≡ refused (refusal 10 0) = answers_one text (most_steps - 1) none (refused (refusal 10 0)) a (some-ten text w) in
    let z : ◌≡◌ {A = ℕ} 0 1 = cc in
    omega arith

pub some-none : (text : List ℕ) → Replies narrow text none → Answers text most_steps none
some-none text w = replies nothing w (omega arith)

pub no-ten : (text : List ℕ) → Replies narrow text none → Answers text most_steps (refused (refusal 10 0)) → ⊥
no-ten text w a =
    let e : refused (refusal 10 0) ≡ none = answers_one text most_steps (refused (refusal 10 0)) none a (some-none text w) in
    let z : ◌≡◌ {A = ℕ} 0 1 = cc in
    omega arith

-- whatever writes them, and whoever owns them
pub no-crowded : (steps : List (List ℕ)) (r : Grounds) (x : List (List ℕ)) (c : Context) (k : Clause) (owner : ℕ) → length (steps_in r.steps x) ≡ most_each + 1
    → Each (most_each + 1) (λ i. (step_at (steps_in r.steps x) i).owner ≡ owner)
    → Shown steps r x c k
    → ⊥
no-crowded steps r x c k owner e w s =
    omega (
      arith,
      s.few_each owner,
      owned-each owner (steps_in r.steps x) (subst (λ (n : ℕ). Each n (λ i. (step_at (steps_in r.steps x) i).owner ≡ owner)) (sym e) w),
    )

-- ---- the lullaby

judged-some : (c : Context) (k : Clause) (u : Reply) (a : List ℕ) → u ≡ breach a → Judged c k u → k.literals ≡ [] → ⊥
judged-some c k u a e (M.empty l) = absurd (let i : ◌≡◌ {A = ℕ} 0 1 = cc in omega arith)
judged-some c k u a e (M.clashes l n h) = absurd (let i : ◌≡◌ {A = ℕ} 0 1 = cc in omega arith)
judged-some c k u a e (M.answers l h q w) = l

-- the rule of a text with a breach has a literal
said-some : (text : List ℕ) (s : Read) (a : List ℕ) → read narrow text ≡ taken s → Replies narrow text (breach a) → s.clause.literals ≡ [] → ⊥
said-some text s a e p = judged-some s.ledger.context s.clause (breach a) a refl (subst (λ (g : Reading). RepliesTo g (breach a)) e p)

-- a literal is not shown by no step
stepless : (c : Context) (k : Clause) (a : List ℕ) (ds : List Conclusion) (v : Verdict) → v ≡ accepted → (k.literals ≡ [] → ⊥) → Verified c k a [] ds v → ⊥
stepless c k a ds v e some (accepts p q w) = go k.literals refl
  where
    cites : (d : Conclusion) (l : Literal) → Concludes c k a [] 1 d l → ⊥
    cites d (equal x y) u = omega (arith, u.inside)
    cites d (unequal x y) u = omega (arith, u.cites.inside)

    go : (ls : List Literal) → k.literals ≡ ls → ⊥
    go [] z = some z
    go (l ∷ ls) z = cites (conclusion_for 1 ds) (literal_at k.literals 0) (w 0 (omega (arith, ap length z)))
stepless c k a ds v e some (unassigns i w) = let z : ◌≡◌ {A = ℕ} 0 1 = cc in omega arith
stepless c k a ds v e some (refuses p i w) = let z : ◌≡◌ {A = ℕ} 0 1 = cc in omega arith
stepless c k a ds v e some (leaves-open p q i w) = let z : ◌≡◌ {A = ℕ} 0 1 = cc in omega arith

module _ (steps : List (List ℕ)) (roomy : most_steps ≤ length steps) (r : Grounds) (x : List (List ℕ))
    (w : Writes lullaby steps r x) where
  pub reply-is : w.reply ≡ breach (0 ∷ 1 ∷ [])
  reply-is =
      answers_one lullaby (length steps) w.reply (breach (0 ∷ 1 ∷ [])) w.answers (replies (found (0 ∷ 1 ∷ [])) lullaby-breach roomy)

  pub some-breach : (r.outcome ≡ O.Breach 2) × (r.places ≡ 0 ∷ 1 ∷ 255 ∷ 255 ∷ [])
  unfolding places_of
  some-breach = (told-one r.outcome (O.Breach 2) (w.told ∙ ap told_of reply-is), w.places ∙ ap places_of reply-is)

  pub no-always-none : r.outcome ≡ O.Clear → ⊥
  no-always-none e = let u : O.Breach 2 ≡ O.Clear = sym some-breach.0 ∙ e in let i : ◌≡◌ {A = ℕ} 0 1 = cc in omega arith

  pub no-always-refused : (f : Refusal) → r.outcome ≡ O.Refused f → ⊥
  no-always-refused f e = let u : O.Breach 2 ≡ O.Refused f = sym some-breach.0 ∙ e in let i : ◌≡◌ {A = ℕ} 0 1 = cc in omega arith

  shown : ShownFor steps r x lullaby
  shown = subst (Leaves steps r x lullaby) reply-is w.leaves

  pub no-stepless : r.steps ≡ 0 → ⊥
  unfolding steps_of
  no-stepless e =
      stepless shown.said.ledger.context shown.said.clause r.places (concluded_in r.conclusions) accepted refl
      (said-some lullaby shown.said (0 ∷ 1 ∷ []) shown.reads lullaby-breach)
      (subst (λ (n : ℕ). Verified shown.said.ledger.context shown.said.clause r.places (steps_in n x) (concluded_in r.conclusions) accepted) e shown.shown.verified)
