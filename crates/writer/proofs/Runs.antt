-- Runs of bytes put one after the other. Assumes nothing.
use mathlib.Core.Path.{◌≡◌, refl, sym, ap, ◌∙◌}
use mathlib.Core.List.{List, [], ◌∷◌, ◌++◌}
use Prim.Native.Nat.{ℕ, suc, ◌+◌, ◌-◌, ◌≤◌}
use native.Mathlib.Nat.{add-zero}
use native.Mathlib.Numerals.{add-one}
use native.Mathlib.Omega.{arith}
use Rattle.std.proofs.Common.{append_assoc}
use lib.ListN.{length, set, take, drop, length-append}
use lib.Seq.{sets, sets-eq, length-sets}
use borrow.Rule.Slice.PartMut.{put_mid, Post-is}
use Rattle.writer.specs.Bytes.{joined}
use Rattle.writer.specs.declared.Pen.{Pen}
use Rattle.writer.specs.Steps.{Put, Puts}
use Rattle.listing.specs.Listing.{onto}

-- a run of bytes put where the run before it ends
sets_append : (vs ws l : List ℕ) (i : ℕ) → sets (sets l i vs) (i + length vs) ws ≡ sets l i (vs ++ ws)
sets_append [] ws l i = rw add-zero
sets_append (a ∷ vs) ws l i =
    let e : i + suc (length vs) ≡ suc i + length vs = omega arith in
    rw e (sets_append vs ws (set l i a) (suc i))

-- bytes copied into the part of a room that begins at a place
pub put_is : (room : List ℕ) (at : ℕ) (bytes part : List ℕ) → part ≡ bytes → at + length bytes ≤ length room
    → put_mid at (at + length bytes - at) room part ≡ sets room at bytes
put_is room at bytes part e h =
    rw e (ap (λ (z : List ℕ). take at room ++ (bytes ++ z)) (Post-is at (at + length bytes) room (omega arith)) ∙ sym (sets-eq bytes room at h ∙ append_assoc (take at room) bytes (drop (at + length bytes) room)))

-- a room keeps its length
pub room_stays : {a b : Pen} {bytes : List ℕ} → Puts a bytes b → length b.room.now ≡ length a.room.now
room_stays {a} {b} {bytes} p = rw p.put.is (length-sets a.room.now a.at bytes)

pub then : {a b c : Pen} {vs ws : List ℕ} → Puts a vs b → Puts b ws c → Puts a (vs ++ ws) c
then {a} {b} {c} {vs} {ws} p q =
    record {
      put = record { is = q.put.is ∙ rw (p.put.is, p.at) (sets_append vs ws a.room.now a.at) };
      at = q.at ∙ rw p.at (rw length-append (omega arith));
      same = q.same ∙ p.same;
    }

-- a loop that puts f 0, f 1, .. one after the other: at its start, and one more
module _ (f : ℕ → List ℕ) where
  pub put_start : (a : Pen) → Puts a (joined f 0) a
  unfolding joined
  put_start a = record { put = record { is = refl }; at = omega arith; same = refl }

  pub put_next : {a b c : Pen} {k : ℕ} → Puts a (joined f k) b → Puts b (f k) c → Puts a (joined f (k + 1)) c
  unfolding joined
  put_next p q = rw add-one (then p q)

-- bytes put at the front, and all that follows as it was
pub put_front : {before bytes after : List ℕ} → Put before 0 bytes after → length bytes ≤ length before → after ≡ onto bytes before
unfolding onto
put_front {before} {bytes} p l =
    let e : 0 + length bytes ≡ length bytes = omega arith in
    p.is ∙ rw e at (sets-eq bytes before 0 (omega arith))
