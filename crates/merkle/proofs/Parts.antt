-- An array that is written part by part.
use Rattle.std.proofs.Common.{◌≡◌, ℕ, ◌+◌, ◌≤◌, [], ◌++◌, length, take, drop, sym, refl, ap, ◌∙◌, arith, length-append, length-drop}
use borrow.Rule.Slice.PartMut.{put_mid}
use Rattle.std.proofs.lemmas.List.{take_all, length-take-le}
use Rattle.std.proofs.lemmas.Slice.{take-put_mid}
use Rattle.merkle.specs.Bytes.{Bytes}

-- of so many bytes the first n are written
pub record Written (total n : ℕ) (b done : Bytes) : Type 0 where
  pub long : length b ≡ total
  pub front : take n b ≡ done

pub none_written : (b : Bytes) → Written (length b) 0 b []
none_written b = record { long = refl; front = refl }

-- one part more: p, which is q, in the k bytes from n on
pub part_more : {total n : ℕ} {b done : Bytes} (k : ℕ) (p q : Bytes) → Written total n b done → p ≡ q → length q ≡ k → n + k ≤ total → Written total (n + k) (put_mid n k b p) (done ++ q)
part_more {total} {n} {b} {done} k p q w is same within =
    let l : length p ≡ k = ap length is ∙ same in
    let r = length-append (take n b) (p ++ drop k (drop n b)) in
    let s = length-append p (drop k (drop n b)) in
    let t = length-take-le n b (omega (arith, w.long)) in
    let d = length-drop k (drop n b) in
    let e = length-drop n b in
    record {
      long = omega (arith, l, r, s, t, d, e, w.long);
      front = take-put_mid n k b p (n + k) (omega (arith, l)) (omega (arith, w.long)) ∙ ap (λ x. x ++ p) w.front ∙ ap (λ x. done ++ x) is;
    }

pub all_written : {n : ℕ} {b whole : Bytes} → Written n n b whole → b ≡ whole
all_written {n} {b} w = sym (take_all n b (omega (arith, w.long))) ∙ w.front
