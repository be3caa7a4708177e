-- A lasso accepted by an automaton has a rotation that starts at acceptance, and what accepts the rotation accepts the lasso.
-- Assumes nothing.
use mathlib.Core.Path.{◌≡◌, refl, ap, ◌∙◌}
use mathlib.Core.Bool.{true}
use mathlib.Core.Logic.{◌⊎◌, inl, inr, ⊎_elim}
use mathlib.Core.List.{[], ◌∷◌, ◌++◌, append-nil, append_assoc}
use Prim.Native.Nat.{ℕ, zero, suc, ◌+◌, ◌*◌, ◌≤◌}
use native.Mathlib.Nat.{mul-pos, zero-lt-suc}
use native.Mathlib.Omega.{arith}
use lib.ListN.{length, length-append}
use Rattle.bits.proofs.Truth.{or_left, or_right}
use Rattle.acceptance.specs.Lasso.{Word, power, Aut, Reach, here, move, Through, accepting, marked, later, Accepted, opens, Period, starts}
use Rattle.acceptance.proofs.Paths.{power_add, power_mul, slide, reach_append, turn, forget, period_append}

-- ---- from a rotated lasso back to the lasso

-- x (y x)^n y is v^(k (n + 1)) where x y is v^k
round_trip : (v x y : Word) (k n : ℕ) → x ++ y ≡ power v k → x ++ power (y ++ x) n ++ y ≡ power v (k * suc n)
round_trip v x y k n cut = slide x y n ∙ ap (λ (w : Word). power w (suc n)) cut ∙ power_mul v k (suc n)

-- A loop of the lasso (u v^i x, y x) is entered after its first y, and is then one of whole periods v.
pub unrotate : {B : Aut} (u v x y : Word) (i k : ℕ) → 1 ≤ k → x ++ y ≡ power v k → Accepted B (u ++ power v i ++ x) (y ++ x) → Accepted B u v
unrotate {B} u v x y i k k-pos cut c = close c.k c.some_round c.loop
  where
    close : (n : ℕ) → 1 ≤ n → Through B c.at (power (y ++ x) n) c.at → Accepted B u v
    close zero h t = absurd (omega arith)
    close (suc n) h t =
        let (q, g, s) = turn y (x ++ power (y ++ x) n) (rw append_assoc at t) in
        record {
          at = q;
          i = i + k * suc c.i;
          k = k * suc n;
          some_round = mul-pos k-pos (zero-lt-suc n);
          stem = rw (power_add v i, ← (round_trip v x y k c.i cut)) (simp append_assoc (simp append_assoc at (reach_append c.stem g)));
          loop = rw (← (round_trip v x y k n cut)) s;
        }

-- a lasso whose stem and period are whole periods longer
pub unpump : {B : Aut} (u v : Word) (i j : ℕ) → 1 ≤ j → Accepted B (u ++ power v i) (power v j) → Accepted B u v
unpump u v i j j_pos c = unrotate u v [] (power v j) i j j_pos refl (simp append-nil c)

-- ---- the rotation at acceptance

-- a path from p to r over w that is cut where acceptance comes: a path to s, and a period from s
pub record Cut (A : Aut) (p : ℕ) (w : Word) (r : ℕ) : Type 0 where
  pub place : ℕ
  pub front : Word
  pub back : Word
  pub joined : front ++ back ≡ w
  pub to : Reach A p front place
  pub from : Period A place back r

module _ {A : Aut} where
  cut_here : {s r : ℕ} {w : Word} → Period A s w r → Cut A s w r
  cut_here {s} {w = w} t = record { place = s; front = []; back = w; joined = refl; to = here; from = t }

  cut_move : {p a q r : ℕ} {w : Word} → A.step p a q ≡ true → Cut A q w r → Cut A p (a ∷ w) r
  cut_move {a = a} s c = record {
    place = c.place;
    front = a ∷ c.front;
    back = c.back;
    joined = ap (λ (w : Word). a ∷ w) c.joined;
    to = move s c.to;
    from = c.from;
  }

  -- a path through acceptance is cut there, or ends there
  pub cut : {p r : ℕ} {w : Word} → Through A p w r → Cut A p w r ⊎ (A.final r ≡ true)
  unfolding opens
  cut (accepting f here) = inr f
  cut {p} (accepting f (move {x = x} {q = q} s h)) = inl (cut_here (starts s (or_left (A.final p) (A.mark p x q) f) h))
  cut {p} (marked {x = x} {q = q} s m h) = inl (cut_here (starts s (or_right (A.final p) (A.mark p x q) m) h))
  cut (later s t) = ⊎_elim (λ c. inl (cut_move s c)) inr (cut t)

  opened : {p r : ℕ} {w : Word} → 1 ≤ length w → A.final p ≡ true → Reach A p w r → Cut A p w r
  unfolding opens
  opened l f here = absurd (omega arith)
  opened {p} l f (move {x = x} {q = q} s h) = cut_here (starts s (or_left (A.final p) (A.mark p x q) f) h)

  -- a loop of at least one letter through acceptance can be cut: its end is its start
  pub loop_cut : {p : ℕ} {w : Word} → 1 ≤ length w → Through A p w p → Cut A p w p
  loop_cut l t = ⊎_elim (λ c. c) (λ f. opened l f (forget t)) (cut t)

power_length : (v : Word) (k : ℕ) → 1 ≤ length v → 1 ≤ k → 1 ≤ length (power v k)
power_length v zero l p = absurd (omega arith)
power_length v (suc k) l p = simp length-append (omega arith)

-- A rotation of the lasso (u, v) of A: a stem and a period of A, and what accepts these accepts (u, v).
pub record Rotation (A : Aut) (u v : Word) : Type 0 where
  pub place : ℕ
  pub stem : Word
  pub period : Word
  pub reached : Reach A A.start stem place
  pub looped : Period A place period place
  pub back : (B : Aut) → Accepted B stem period → Accepted B u v

pub rotate : {A : Aut} (u v : Word) → 1 ≤ length v → Accepted A u v → Rotation A u v
rotate u v l c =
    let d = loop_cut (power_length v c.k l c.some_round) c.loop in
    record {
      place = d.place;
      stem = u ++ power v c.i ++ d.front;
      period = d.back ++ d.front;
      reached = reach_append c.stem d.to;
      looped = period_append d.from d.to;
      back = λ B. unrotate u v d.front d.back c.i c.k c.some_round d.joined;
    }
