-- How the answers of the passes make up the test of the ready queue.
use Rattle.std.proofs.Common.{◌≡◌, ℕ, Bool, true, false, ◌&&◌, eqb, leb, List, length, get_or, take, drop, sym, refl, ap, ◌∙◌, arith, eq-eqb, eqb-true}
use Rattle.std.proofs.lemmas.List.{ext_get_or}
use Rattle.std.proofs.lemmas.Bool.Decides.{nat_tests}
use lib.Pointwise.{pointwise, bytes_decides}
use Rattle.lists.specs.Lists.{below, all, member}
use Rattle.lists.proofs.Tests.{same}
use Rattle.lists.proofs.All.{all_below, below_all}
use Rattle.lists.proofs.Every.{all_same}
use Rattle.model.specs.Arrays.{flag}
use Rattle.soundness.specs.Queue.{holds_ready, SeenOnce}

pub zero_same : (x : ℕ) → eqb x 0 ≡ eqb 0 x
zero_same x = grind (arith, nat_tests)

-- lists of n numbers are the same where each number is
pub compared : (a b : List ℕ) (n : ℕ) → length a ≡ n → length b ≡ n → pointwise eqb a b ≡ all (λ t. eqb (get_or a t 0) (get_or b t 0)) (below n)
compared a b n e f =
    same (pointwise eqb a b) (all alike (below n))
    (λ p. below_all alike n (λ t h. eq-eqb (get_or a t 0) (get_or b t 0) (ap (λ (l : List ℕ). get_or l t 0) ((bytes_decides a b).0 p))))
    (λ p. (bytes_decides a b).1 (ext_get_or 0 a b (e ∙ sym f) (λ t h. eqb-true (get_or a t 0) (get_or b t 0) (all_below alike n p t (rw e at h)))))
  where
    alike : ℕ → Bool
    alike t = eqb (get_or a t 0) (get_or b t 0)

pub queue_parts : (r q : List ℕ) (n : ℕ) (seen : List ℕ) (a b z : Bool) → leb n 64 ≡ true
    → SeenOnce (take n q) a seen
    → b ≡ all (λ t. eqb (get_or r t 0) (get_or seen t 0)) (below 64)
    → z ≡ all (eqb 0) (drop n q)
    → (a && b && z) ≡ holds_ready r q n
unfolding holds_ready
queue_parts r q n seen a b z few m e f = go a refl
  where
    go : (w : Bool) → a ≡ w → (w && b && z) ≡ holds_ready r q n
    go true p =
        let ready = all_same (λ t. eqb (get_or r t 0) (get_or seen t 0)) (λ t. eqb (get_or r t 0) (flag (member t (take n q)))) 64 (λ t h. ap (eqb (get_or r t 0)) (m.marks p t h)) in
        rw (few, sym m.once ∙ p, e ∙ ready, f)
    go false p = rw (few, sym m.once ∙ p)
