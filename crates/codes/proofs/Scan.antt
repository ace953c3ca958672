-- The scan for the first pair that differs: where it stops is the number of equal outer pairs, by one turn of the loop of `differing_at`; and the
-- pair that differs, from 1, is the one after these.
use Rattle.std.proofs.Common.{◌≡◌, ap, sym, ◌∙◌, refl, cond, Bool, true, false, List, ◌++◌, ◌∷◌, [], ◌≢◌, ℕ, ◌*◌, ◌/◌, ◌≤◌, ◌<◌, ◌+◌, suc, ◌-◌, zero, arith, ne_eqb, eq-eqb, leb-true, le-leb, leb-false, eqb, leb, get_or, length}
use borrow.Author.Tests.{lt-leb}
use lib.ListN.{get_or-append}
use lib.Seq.{get_or_at}
use Rattle.encoding.specs.Codes.{differing_pair}
use Rattle.encoding.specs.Needs.{equal_pairs}
use Rattle.codes.specs.Needs.{pair_after}
use Rattle.encoding.specs.Words.{Mirror, mirror_rank}
use Rattle.encoding.proofs.Ends.{ends, equal_pairs-ends, differing_pair-ends}

-- The scan of a word of n letters may stop at p: the p outer pairs are equal, and the next one differs if there is one.
pub record Stops (s : ℕ) (m : Mirror) (n : ℕ) (w : List ℕ) (p : ℕ) : Type 0 where
  pub fits : 2 * p ≤ n
  pub equal : (j i : ℕ) → j < p → i + suc j ≡ n → get_or w j 0 ≡ mirror_rank s m (get_or w i 0)
  pub differs : (i : ℕ) → 2 * suc p ≤ n → i + suc p ≡ n → get_or w p 0 ≢ mirror_rank s m (get_or w i 0)

stops_inner : (s : ℕ) (m : Mirror) (n a b p : ℕ) (u : List ℕ) → length u ≡ n → Stops s m (suc (suc n)) (a ∷ (u ++ (b ∷ []))) (suc p) → Stops s m n u p
stops_inner s m n a b p u l g =
    record {
      fits = omega (arith, g.fits);
      equal = λ j i h e.
          sym (get_or-append u (b ∷ []) 0 j (omega arith))
          ∙ g.equal (suc j) (suc i) (omega arith) (omega arith)
          ∙ ap (mirror_rank s m) (get_or-append u (b ∷ []) 0 i (omega arith));
      differs = λ i h e d.
          g.differs (suc i) (omega arith) (omega arith)
          (get_or-append u (b ∷ []) 0 p (omega arith) ∙ d ∙ ap (mirror_rank s m) (sym (get_or-append u (b ∷ []) 0 i (omega arith))));
    }

stops_at : (s : ℕ) (m : Mirror) (n : ℕ) (w : List ℕ) → length w ≡ n → (p : ℕ) → Stops s m n w p → equal_pairs s m n w ≡ p
unfolding equal_pairs
stops_at s m =
    ends (λ n w. (p : ℕ) → Stops s m n w p → equal_pairs s m n w ≡ p) (λ p g. omega (arith, g.fits)) (λ a p g. omega (arith, g.fits))
    (λ n a b u l ih p g. equal_pairs-ends s m n a b u l ∙ step n a b u l ih p g)
  where
    step : (n a b : ℕ) (u : List ℕ) → length u ≡ n → ((p : ℕ) → Stops s m n u p → equal_pairs s m n u ≡ p) → (p : ℕ)
        → Stops s m (suc (suc n)) (a ∷ (u ++ (b ∷ []))) p
        → cond (eqb a (mirror_rank s m b)) (suc (equal_pairs s m n u)) 0 ≡ p
    step n a b u l ih zero g =
        let d : a ≢ mirror_rank s m b = λ e. g.differs (suc n) (omega arith) (omega arith) (e ∙ ap (mirror_rank s m) (sym (get_or_at u b [] 0 n l))) in
        rw (ne_eqb a (mirror_rank s m b) d)
    step n a b u l ih (suc p) g =
        let e : a ≡ mirror_rank s m b = g.equal 0 (suc n) (omega arith) (omega arith) ∙ ap (mirror_rank s m) (get_or_at u b [] 0 n l) in
        rw (eq-eqb a (mirror_rank s m b) e) (ap suc (ih p (stops_inner s m n a b p u l g)))

-- ---- the loop

pub record Equal (s : ℕ) (m : Mirror) (w : List ℕ) (i : ℕ) : Type 0 where
  pub fits : 2 * i ≤ length w
  pub equal : (j p : ℕ) → j < i → p + suc j ≡ length w → get_or w j 0 ≡ mirror_rank s m (get_or w p 0)

module _ (s : ℕ) (m : Mirror) (w : List ℕ) (i : ℕ) (inv : Equal s m w i) where
  pub stop_middle : i ≡ length w / 2 → i ≡ equal_pairs s m (length w) w
  stop_middle h =
      sym (stops_at s m (length w) w refl i (record { fits = inv.fits; equal = inv.equal; differs = λ p g e. absurd (omega (arith, inv.fits)) }))

  pub stop_differs : (get_or w i 0 ≡ mirror_rank s m (get_or w (length w - 1 - i) 0) → ⊥) → i ≡ equal_pairs s m (length w) w
  stop_differs d =
      sym (stops_at s m (length w) w refl i
      (record {
        fits = inv.fits;
        equal = inv.equal;
        differs = λ p g e f. let q : p ≡ length w - 1 - i = omega arith in d (f ∙ ap (λ (x : ℕ). mirror_rank s m (get_or w x 0)) q);
      }))

-- ---- the pair that differs

pair_suc : (n p : ℕ) → cond (eqb (pair_after n p) 0) 0 (suc (pair_after n p)) ≡ pair_after (suc (suc n)) (suc p)
unfolding pair_after
pair_suc n p = go (leb (2 * suc p) n) refl
  where
    go : (t : Bool) → leb (2 * suc p) n ≡ t
        → cond (eqb (cond t (suc p) 0) 0) 0 (suc (cond t (suc p) 0)) ≡ cond (leb (2 * suc (suc p)) (suc (suc n))) (suc (suc p)) 0
    go true e =
        let h : 2 * suc p ≤ n = leb-true (2 * suc p) n e in
        rw (le-leb (2 * suc (suc p)) (suc (suc n)) (omega arith), ne_eqb (suc p) 0 (λ z. omega arith))
    go false e =
        let h : n < 2 * suc p = leb-false (2 * suc p) n e in
        rw (lt-leb (2 * suc (suc p)) (suc (suc n)) (omega arith))

pair_first : (n : ℕ) → 1 ≡ pair_after (suc (suc n)) 0
unfolding pair_after
pair_first n = rw (le-leb (2 * suc 0) (suc (suc n)) (omega arith))

pub differing_pair-is : (s : ℕ) (m : Mirror) (n : ℕ) (w : List ℕ) → length w ≡ n → differing_pair s m n w ≡ pair_after n (equal_pairs s m n w)
unfolding differing_pair equal_pairs pair_after
differing_pair-is s m =
    ends (λ n w. differing_pair s m n w ≡ pair_after n (equal_pairs s m n w)) refl (λ a. refl)
    (λ n a b u l ih.
    differing_pair-ends s m n a b u l
    ∙ step n a b u ih (eqb a (mirror_rank s m b))
    ∙ ap (pair_after (suc (suc n))) (sym (equal_pairs-ends s m n a b u l)))
  where
    step : (n a b : ℕ) (u : List ℕ) → differing_pair s m n u ≡ pair_after n (equal_pairs s m n u) → (t : Bool)
        → cond t (cond (eqb (differing_pair s m n u) 0) 0 (suc (differing_pair s m n u))) 1 ≡ pair_after (suc (suc n)) (cond t (suc (equal_pairs s m n u)) 0)
    step n a b u ih true = rw ih (pair_suc n (equal_pairs s m n u))
    step n a b u ih false = pair_first n
