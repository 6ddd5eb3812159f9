-- The ways out of the function that gives the normaliser program's output; and that what it gives is what the program has to print.
--     output-over, output-wrote, output-refused   input that is too long; a normal text; a refusal
--     prints-normal-one                           two answers to one input and one lent space are equal, the space afterwards included
--     output-fits                                 the bytes of a normal text stand in the space
--     output-prints                               with space for any normal text, the parts joined are the program's output
-- Assumes nothing.
use mathlib.Core.List.{List, [], ◌++◌, append-nil}
use mathlib.Core.Path.{◌≡◌, refl, sym, ap, ap₂, subst, ◌∙◌}
use Prim.Native.Nat.{ℕ, zero, suc, ◌-◌, ◌≤◌, ◌<◌}
use native.Mathlib.Omega.{arith}
use borrow.Author.Rules.{rules}
use lib.ListN.{length, take, drop, replicate, length-append, get_or-eq_default}
use lib.Seq.{take_at}
use Rattle.meaning.specs.Context.{Context, equations}
use Rattle.meaning.specs.Equality.{Representatives, reflexive}
use Rattle.meaning.specs.Formed.{Fit}
use Rattle.meaning.specs.Text as M
use Rattle.meaning.specs.Text.{narrow, read, faulty, taken}
use Rattle.meaning.specs.Writing.{context_text, normal_of}
use Rattle.meaning.specs.Replies.{Written as MW, refused, refusal, printed, Normalised, normal, abnormal, Settled, contradicts, settles, NormalisesTo, Normalises, Leaves, fits, short, stays, wrote, unwritten, Writes, printed_normal, NormalisePrints, long, normalises}
use Rattle.meaning.specs.Closing.{close}
use Rattle.meaning.proofs.Promised.{closing-represents, closing-promise}
use Rattle.meaning.proofs.Taken.{read-formed}
use Rattle.meaning.proofs.Agreement.{normal-one}
use Rattle.meaning.proofs.Answered.{writes_one}
use Rattle.meaning.proofs.Computed.{rep_of}
use Rattle.meaning.proofs.Kept.{read_kept}
use Rattle.meaning.proofs.Bounds.{normal-bytes}
use Rattle.replies.specs.Told.{meant}
use Rattle.replies.specs.declared.Refusal.{Refusal}
use Rattle.normaliser.specs.Claims.{written_by}
use Rattle.reply_lines.specs.Prints.{Prints}
use Rattle.std.specs.Prelude.{Result, Ok, Err}
use Rattle.reply_lines.specs.declared.Line.{Line}
use Rattle.reply_lines.proofs.Printing.{line-one}
use Rattle.outputs.specs.Claims.{normal_limit, PartsOf, Answers, over, within, PrintsNormal}
use Rattle.outputs.specs.declared.Parts.{Parts}

pub output-over : (input space : List ℕ) (line : Line) → 16384 < length input → Prints (printed (refused (refusal 11 0))) line.bytes line.len
    → PrintsNormal input space (record { text = 0; line = line }) space
output-over input space line h p = record { answer = unwritten (refusal 11 0); answers = over h; parts = (refl, p) }

module _ (input space after : List ℕ) (line : Line) (few : length input ≤ 16384) (w : Result ℕ Refusal) (writes : Writes narrow input space (written_by w) after) where
  pub output-wrote : (n : ℕ) → w ≡ Ok n → Prints [] line.bytes line.len → PrintsNormal input space (record { text = n; line = line }) after
  output-wrote n e p =
      record { answer = wrote n; answers = within few (wrote n) after (subst (λ (z : Result ℕ Refusal). Writes narrow input space (written_by z) after) e writes); parts = (refl, p) }

  pub output-refused : (x : Refusal) → w ≡ Err x → Prints (printed (refused (meant x))) line.bytes line.len
      → PrintsNormal input space (record { text = 0; line = line }) after
  output-refused x e p =
      record {
        answer = unwritten (meant x);
        answers = within few (unwritten (meant x)) after (subst (λ (z : Result ℕ Refusal). Writes narrow input space (written_by z) after) e writes);
        parts = (refl, p);
      }

-- ---- one answer

answers_one : (input space : List ℕ) (a b : MW) (u v : List ℕ) → Answers input space a u → Answers input space b v → (a ≡ b) × (u ≡ v)
answers_one input space a b u v (over h) (over k) = (refl, refl)
answers_one input space a b u v (over h) (within k c w q) = absurd (omega arith)
answers_one input space a b u v (within h c w p) (over k) = absurd (omega arith)
answers_one input space a b u v (within h c w p) (within k d x q) = writes_one narrow input space a b u v p q

parts-one : (a : MW) (r s : Parts) → PartsOf a r → PartsOf a s → r ≡ s
parts-one a r s = go a
  where
    same : {n : ℕ} {l : List ℕ} → (r.text ≡ n) × Prints l r.line.bytes r.line.len → (s.text ≡ n) × Prints l s.line.bytes s.line.len → r ≡ s
    same p q = ap₂ (λ (m : ℕ) (l : Line). record { text = m; line = l }) (p.0 ∙ sym q.0) (line-one r.line s.line p.1 q.1)

    go : (a : MW) → PartsOf a r → PartsOf a s → r ≡ s
    go (wrote n) p q = same p q
    go (unwritten x) p q = same p q

pub prints-normal-one : (input space u v : List ℕ) (r s : Parts) → PrintsNormal input space r u → PrintsNormal input space s v → (r ≡ s) × (u ≡ v)
prints-normal-one input space u v r s p q =
    let w : (p.answer ≡ q.answer) × (u ≡ v) = answers_one input space p.answer q.answer u v p.answers q.answers in
    (parts-one q.answer r s (subst (λ (a : MW). PartsOf a r) w.0 p.parts) q.parts, w.1)

-- ---- what is given is what has to be printed

-- a line that stands at the front
front_of : (line bytes : List ℕ) (n : ℕ) → Prints line bytes n → take n bytes ≡ line
front_of line bytes n p = ap (take n) p.front ∙ take_at line (replicate (32 - length line) 0) n (sym p.size)

first-own : (c : Context) (rep : ℕ → ℕ) → Representatives c rep → 0 < length c.rows → rep 0 ≡ 0
first-own c rep w h = omega (arith, (w 0 h).least 0 h reflexive)

closed-own : (c : Context) → Fit c → rep_of c 0 ≡ 0
closed-own c f = go (length c.rows) refl
  where
    go : (n : ℕ) → length c.rows ≡ n → rep_of c 0 ≡ 0
    go zero e = get_or-eq_default (close c.rows (equations c)) 0 (omega (arith, (closing-promise c f).long))
    go (suc n) e = first-own c (rep_of c) (closing-represents c f) (omega arith)

settled-few : (input : List ℕ) (s : M.Read) → read narrow input ≡ taken s → (r : Normalised) → Settled s.ledger.context r → (text : List ℕ) → r ≡ normal text → length text ≤ normal_limit
settled-few input s e r (contradicts n x) text q = absurd (let z : ◌≡◌ {A = ℕ} 0 1 = cc in omega arith)
settled-few input s e r (settles x u w) text q =
    let c : Context = s.ledger.context in
    let f : Fit c = (read-formed narrow input s e).fit in
    let v : u ≡ text = cc in
    let k : normal_of w.0 c ≡ normal_of (rep_of c) c = normal-one c w.0 (rep_of c) w.1 (closing-represents c f) f in
    let g : text ≡ context_text (normal_of (rep_of c) c) = sym v ∙ w.2 ∙ ap context_text k in
    rw g (normal-bytes (rep_of c) c (read_kept narrow input s e).context_fits (closed-own c f))

normal-few : (input text : List ℕ) → Normalises narrow input (normal text) → length text ≤ normal_limit
normal-few input text w = go (read narrow input) refl w
  where
    go : (y : M.Reading) → read narrow input ≡ y → NormalisesTo y (normal text) → length text ≤ normal_limit
    go (faulty f) e q = absurd (let z : ◌≡◌ {A = ℕ} 0 1 = cc in omega arith)
    go (taken s) e q = settled-few input s e (normal text) q text refl

pub output-fits : (input space after : List ℕ) (r : Parts) → PrintsNormal input space r after → r.text ≤ length after
output-fits input space after r p = go p.answer after p.answers p.parts
  where
    left : (x : Normalised) (a : MW) (u : List ℕ) → Leaves space x a u → PartsOf a r → r.text ≤ length u
    left x a u (fits text k) q = omega (arith, length-append text (drop (length text) space))
    left x a u (short text k) q = omega arith
    left x a u (stays y) q = omega arith

    go : (a : MW) (u : List ℕ) → Answers input space a u → PartsOf a r → r.text ≤ length u
    go a u (over h) q = omega arith
    go a u (within h b v w) q = left w.result a u w.leaves q

pub output-prints : (input space after : List ℕ) (r : Parts) → normal_limit ≤ length space → PrintsNormal input space r after
    → NormalisePrints narrow input (take r.text after ++ take r.line.len r.line.bytes)
unfolding printed_normal
output-prints input space after r room p = go p.answer after p.answers p.parts
  where
    lined : (u : List ℕ) (x : M.Refusal) → (r.text ≡ 0) × Prints (printed (refused x)) r.line.bytes r.line.len → take r.text u ++ take r.line.len r.line.bytes ≡ printed (refused x)
    lined u x q = rw q.0 (front_of (printed (refused x)) r.line.bytes r.line.len q.1)

    left : (x : Normalised) (a : MW) (u : List ℕ) → length input ≤ 16384 → Normalises narrow input x → Leaves space x a u → PartsOf a r
        → NormalisePrints narrow input (take r.text u ++ take r.line.len r.line.bytes)
    left x a u h w (fits text k) q =
        let e : take r.text (text ++ drop (length text) space) ++ take r.line.len r.line.bytes ≡ text =
        ap₂ ◌++◌ (take_at text (drop (length text) space) r.text (sym q.0)) (front_of [] r.line.bytes r.line.len q.1) ∙ append-nil text in
        subst (NormalisePrints narrow input) (sym e) (normalises h (normal text) w)
    left x a u h w (short text k) q = absurd (omega (arith, normal-few input text w))
    left x a u h w (stays y) q = subst (NormalisePrints narrow input) (sym (lined u y q)) (normalises h (abnormal y) w)

    go : (a : MW) (u : List ℕ) → Answers input space a u → PartsOf a r → NormalisePrints narrow input (take r.text u ++ take r.line.len r.line.bytes)
    go a u (over h) q = subst (NormalisePrints narrow input) (sym (lined u (refusal 11 0) q)) (long h)
    go a u (within h b v w) q = left w.result a u h w.normalises w.leaves q

pub ruleset mine = (rules, output-over, output-wrote, output-refused)
