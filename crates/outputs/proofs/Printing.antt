-- The ways out of the function that gives the finder program's line.
--     prints-long, prints-reply    input that is too long; a reply of the finder
--     prints-found-one             two lines for one input are equal
-- Assumes nothing.
use mathlib.Core.List.{List, [], ◌∷◌, map}
use mathlib.Core.Path.{◌≡◌, refl, sym, ap, ap₂, subst, ◌∙◌}
use Prim.Native.Nat.{ℕ, ◌-◌, ◌≤◌, ◌<◌}
use native.Mathlib.Omega.{arith}
use borrow.Author.Rules.{rules}
use lib.ListN.{length, take, replicate}
use lib.Seq.{take_at}
use Rattle.meaning.specs.Context.{terms}
use Rattle.meaning.specs.Rules.{Below, found, nothing}
use Rattle.meaning.specs.Text as M
use Rattle.meaning.specs.Text.{narrow, read, faulty, taken}
use Rattle.meaning.specs.Replies.{Reply, breach, none, refused, refusal, printed, places_of, Judged, empty, clashes, answers, RepliesTo, Replies, FindPrints, long, replies}
use Rattle.meaning.proofs.Table.{length-terms}
use Rattle.meaning.proofs.Kept.{read_kept}
use Rattle.meaning.proofs.Answered.{replies-one}
use Rattle.replies.specs.Told.{meant, told_by, told_of}
use Rattle.replies.specs.declared.Refusal.{Refusal}
use Rattle.finder.specs.Claims.{Finds}
use Rattle.replies.specs.declared.Outcome.{Outcome}
use Rattle.replies.specs.declared.Outcome.TheVariants as O
use Rattle.replies.specs.declared.Reply.{Reply as Answer}
use Rattle.reply_lines.specs.Pieces.{low8}
use Rattle.reply_lines.specs.Prints.{Prints, line_by}
use Rattle.reply_lines.specs.declared.Line.{Line}
use Rattle.reply_lines.proofs.Printing.{line-one}
use Rattle.outputs.specs.Claims.{PrintsFound}

-- ---- a breach's rows are bytes

low-bytes : (a : List ℕ) → Below 256 a → map low8 a ≡ a
low-bytes [] b = refl
low-bytes (x ∷ a) b = ap₂ ◌∷◌ (omega (arith, b.0)) (low-bytes a b.1)

below-bytes : (n : ℕ) (a : List ℕ) → n ≤ 255 → Below n a → Below 256 a
below-bytes n [] h b = tt
below-bytes n (x ∷ a) h b = (omega (arith, b.0), below-bytes n a h b.1)

judged-inside : (text a : List ℕ) (s : M.Read) → read narrow text ≡ taken s → (r : Reply) → Judged s.ledger.context s.clause r → r ≡ breach a → Below 256 a
judged-inside text a s e r (empty x) q = absurd (let z : ◌≡◌ {A = ℕ} 0 1 = cc in omega arith)
judged-inside text a s e r (clashes x n y) q = absurd (let z : ◌≡◌ {A = ℕ} 0 1 = cc in omega arith)
judged-inside text a s e r (answers x y nothing w) q = absurd (let z : ◌≡◌ {A = ℕ} 0 1 = cc in omega arith)
judged-inside text a s e r (answers x y (found b) w) q =
    let f : b ≡ a = cc in
    rw (← f)
    (below-bytes (length (terms s.ledger.context.rows)) b
    (omega (arith, length-terms s.ledger.context.rows, (read_kept narrow text s e).context_fits.few_rows))
    w.0.inside)

breach-bytes : (text a : List ℕ) → Replies narrow text (breach a) → Below 256 a
breach-bytes text a w = go (read narrow text) refl w
  where
    go : (y : M.Reading) → read narrow text ≡ y → RepliesTo y (breach a) → Below 256 a
    go (faulty f) e q = absurd (let z : ◌≡◌ {A = ℕ} 0 1 = cc in omega arith)
    go (taken s) e q = judged-inside text a s e (breach a) q refl

-- ---- the ways out

pub prints-long : (input : List ℕ) (r : Line) → 16384 < length input → Prints (printed (refused (refusal 11 0))) r.bytes r.len → PrintsFound input r
prints-long input r h p = record { line = printed (refused (refusal 11 0)); prints = long h; front = p }

module _ (input : List ℕ) (r : Line) (short : length input ≤ 16384) (x : Answer) (finds : Finds input x) where
  with-reply : Prints (printed finds.reply) r.bytes r.len → PrintsFound input r
  with-reply p = record { line = printed finds.reply; prints = replies short finds.reply finds.replies; front = p }

  prints-breach : (n m : ℕ) → x.outcome ≡ O.Breach n → m ≡ n → Prints (printed (breach (map low8 (take m x.places)))) r.bytes r.len → PrintsFound input r
  unfolding places_of
  prints-breach n m e f p = go finds.reply refl
    where
      go : (y : Reply) → finds.reply ≡ y → PrintsFound input r
      go (breach a) q =
          let v : 8 ∷ n ∷ [] ≡ 8 ∷ length a ∷ [] = sym (ap told_by e) ∙ finds.told ∙ ap told_of q in
          let l : length a ≡ m = cc in
          let t : take m x.places ≡ a = ap (take m) (finds.places ∙ ap places_of q) ∙ take_at a (replicate (4 - length a) 255) m l in
          let b : map low8 (take m x.places) ≡ a = ap (map low8) t ∙ low-bytes a (breach-bytes input a (subst (Replies narrow input) q finds.replies)) in
          with-reply (subst (λ (z : Reply). Prints (printed z) r.bytes r.len) (ap breach b ∙ sym q) p)
      go none q = absurd (let v : 8 ∷ n ∷ [] ≡ 9 ∷ [] = sym (ap told_by e) ∙ finds.told ∙ ap told_of q in let z : ◌≡◌ {A = ℕ} 8 9 = cc in omega arith)
      go (refused f) q =
          absurd (let v : 8 ∷ n ∷ [] ≡ 10 ∷ f.number ∷ f.place ∷ f.offset ∷ [] = sym (ap told_by e) ∙ finds.told ∙ ap told_of q in let z : ◌≡◌ {A = ℕ} 8 10 = cc in omega arith)

  prints-clear : x.outcome ≡ O.Clear → Prints (printed none) r.bytes r.len → PrintsFound input r
  prints-clear e p = go finds.reply refl
    where
      go : (y : Reply) → finds.reply ≡ y → PrintsFound input r
      go none q = with-reply (subst (λ (z : Reply). Prints (printed z) r.bytes r.len) (sym q) p)
      go (breach a) q = absurd (let v : 9 ∷ [] ≡ 8 ∷ length a ∷ [] = sym (ap told_by e) ∙ finds.told ∙ ap told_of q in let z : ◌≡◌ {A = ℕ} 9 8 = cc in omega arith)
      go (refused f) q =
          absurd (let v : 9 ∷ [] ≡ 10 ∷ f.number ∷ f.place ∷ f.offset ∷ [] = sym (ap told_by e) ∙ finds.told ∙ ap told_of q in let z : ◌≡◌ {A = ℕ} 9 10 = cc in omega arith)

  prints-refused : (f : Refusal) → x.outcome ≡ O.Refused f → Prints (printed (refused (meant f))) r.bytes r.len → PrintsFound input r
  prints-refused f e p = go finds.reply refl
    where
      go : (y : Reply) → finds.reply ≡ y → PrintsFound input r
      go (refused g) q =
          let v : 10 ∷ f.number ∷ f.line ∷ f.offset ∷ [] ≡ 10 ∷ g.number ∷ g.place ∷ g.offset ∷ [] = sym (ap told_by e) ∙ finds.told ∙ ap told_of q in
          let n : f.number ≡ g.number = cc in
          let l : f.line ≡ g.place = cc in
          let o : f.offset ≡ g.offset = cc in
          let m : meant f ≡ g = rw (n, l, o) in
          with-reply (subst (λ (z : Reply). Prints (printed z) r.bytes r.len) (ap refused m ∙ sym q) p)
      go (breach a) q =
          absurd (let v : 10 ∷ f.number ∷ f.line ∷ f.offset ∷ [] ≡ 8 ∷ length a ∷ [] = sym (ap told_by e) ∙ finds.told ∙ ap told_of q in let z : ◌≡◌ {A = ℕ} 10 8 = cc in omega arith)
      go none q = absurd (let v : 10 ∷ f.number ∷ f.line ∷ f.offset ∷ [] ≡ 9 ∷ [] = sym (ap told_by e) ∙ finds.told ∙ ap told_of q in let z : ◌≡◌ {A = ℕ} 10 9 = cc in omega arith)

  pub prints-reply : Prints (line_by x.outcome x.places) r.bytes r.len → PrintsFound input r
  prints-reply p = go x.outcome refl
    where
      go : (o : Outcome) → x.outcome ≡ o → PrintsFound input r
      go (O.Breach n) e = prints-breach n n e refl (subst (λ (o : Outcome). Prints (line_by o x.places) r.bytes r.len) e p)
      go O.Clear e = prints-clear e (subst (λ (o : Outcome). Prints (line_by o x.places) r.bytes r.len) e p)
      go (O.Refused f) e = prints-refused f e (subst (λ (o : Outcome). Prints (line_by o x.places) r.bytes r.len) e p)

-- ---- one line

find-prints-one : (input l m : List ℕ) → FindPrints narrow input l → FindPrints narrow input m → l ≡ m
find-prints-one input l m (long h) (long k) = refl
find-prints-one input l m (long h) (replies k r w) = absurd (omega arith)
find-prints-one input l m (replies h r w) (long k) = absurd (omega arith)
find-prints-one input l m (replies h r w) (replies k s v) = ap printed (replies-one narrow input r s w v)

pub prints-found-one : (input : List ℕ) (r s : Line) → PrintsFound input r → PrintsFound input s → r ≡ s
prints-found-one input r s p q =
    let e : q.line ≡ p.line = find-prints-one input q.line p.line q.prints p.prints in
    line-one r s p.front (subst (λ (l : List ℕ). Prints l s.bytes s.len) e q.front)

pub ruleset mine = (rules, prints-long, prints-reply)
