-- No second answer fits the contract of `read`, its board among it, of `read_at`, `read_from`, `begin` or `trailer_place`, of `board_counts`, of `refusal_of`, or of `number_for_no`. Assumes nothing.
use mathlib.Core.Path.{◌≡◌, refl, sym, ap, ◌∙◌}
use Prim.Native.Nat.{ℕ}
use mathlib.Core.List.{List}
use seplogic.Ra.Ura.{Ura}
use base.Logic.{SProp, ent, sep, id⊢, via, fst∗, snd∗}
use prog.Memory.{Memory}
use prog.Routine.{Routine}
use types.Logic.{Logic}
use contract.Lifetimes.{Lfts}
use contract.Monad.{Fun, fact, fact_i, fact_use}
use denote.Ref.{Bor}
use denote.RattleType.{RattleType}
use denote.Param.Laws.{Laws, IsCopy}
use mir.Syntax.{Dict}
use denote.Triple.Clauses.{Ended, Clauses, AtExit}
use denote.Triple.Entry.{Args, Res}
use Rattle.std.specs.Prelude.{Result, Ok, Err}
use Rattle.std.specs.declared.clone.Clone as Clone
use Rattle.told.specs.declared.Refusal.{Refusal}
use Rattle.told.specs.Told.{Told, refused, says, told as plain}
use Rattle.told.proofs.ToldLaws.{same_told, same_told_by}
use Rattle.told.specs.Alone.{NoSecondAnswer}
use Rattle.board.specs.declared.Board.{Board}
use Rattle.reader.specs.declared.Reading.{Reading}
use Rattle.reader.specs.declared.FileReader.{FileReader}
use Rattle.reader.specs.declared.Counts.{Counts}
use Rattle.reader.specs.declared.Numbered as Numbered
use Rattle.reader.specs.Reading.{told, read_says, read_keeps}
use Rattle.reader.specs.File.{trailer}
use Rattle.reader.proofs.read.Reads as read
use Rattle.reader.proofs.read.Kinds as read-kinds
use Rattle.reader.proofs.read_at.Reads as read_at
use Rattle.reader.proofs.read_at.Kinds as read-at-kinds
use Rattle.reader.specs.contracts.read_from as read-from
use Rattle.reader.specs.contracts.begin as begin
use Rattle.reader.proofs.board_counts.Reads as board-counts
use Rattle.reader.proofs.board_counts.Kinds as board-counts-kinds
use Rattle.reader.proofs.trailer_place.Reads as trailer-place
use Rattle.reader.proofs.trailer_place.Kinds as trailer-place-kinds
use Rattle.reader.proofs.refusal_of.Reads as refusal-of
use Rattle.reader.proofs.refusal_of.Kinds as refusal-of-kinds
use Rattle.reader.proofs.RefusalNumbered.number_for_no.Reads as refusal-number
use Rattle.reader.proofs.RefusalNumbered.number_for_no.Kinds as refusal-number-kinds
use Rattle.reader.proofs.U8Numbered.number_for_no.Reads as byte-number
use Rattle.reader.proofs.U8Numbered.number_for_no.Kinds as byte-number-kinds

same_parts : {o p : Result (Unit {0}) Refusal} {b d : Board} → o ≡ p → b ≡ d → ◌≡◌ {A = Reading} (record { outcome = o; board = b }) (record { outcome = p; board = d })
same_parts o b = rw (o, b)

-- the outcome back from what it says with any board beside it
told_without : Told Board → Told (Unit {0})
told_without (refused number) = refused number
told_without (says board) = says tt

outcome_told : (outcome : Result (Unit {0}) Refusal) (board : Board) → told_without (told outcome board) ≡ plain outcome
unfolding told_without
outcome_told (Ok u) board = refl
outcome_told (Err refusal) board = refl

same_reading : (x y : Reading) → told x.outcome x.board ≡ told y.outcome y.board → x.board ≡ y.board → x ≡ y
same_reading x y t b = same_parts (same_told (sym (outcome_told x.outcome x.board) ∙ ap told_without t ∙ outcome_told y.outcome y.board) refl) b

-- what the contracts say: of a reader that begins, and of a file that was read
abbrev pub Begun : Bor (List ℕ) → FileReader → Type 0
Begun s d = (d.file ≡ s) × (d.place ≡ trailer s.now)

abbrev pub IsRead : List ℕ → Reading → Type 0
IsRead file r = (told r.outcome r.board ≡ read_says file) × (r.board ≡ read_keeps file)

one_reading : (file : List ℕ) (x y : Reading) → IsRead file x → IsRead file y → x ≡ y
one_reading file x y p q = same_reading x y (p.0 ∙ sym q.0) (p.1 ∙ sym q.1)

pub read_alone : NoSecondAnswer 1 read-kinds.ps read-kinds.r read.Post (λ κs e. tt {0})
read_alone κs a x y e f p q = (one_reading _ x y p q, refl)

pub read_at_alone : NoSecondAnswer 1 read-at-kinds.ps read-at-kinds.r read_at.Post (λ κs e. tt {0})
read_at_alone κs a x y e f p q = (one_reading _ x y p q, refl)

-- the same of a function over a reader, on its clauses as the logic has them: two answers that both meet them are the same
abbrev NoSecondResult : {M : Type 1} (𝓤 : Ura M) (T : Ended) → Clauses 𝓤 T → Type 1
NoSecondResult 𝓤 T c =
    (κs : Lfts T.signature.lifetimes) (a : Args T.signature κs) (g : (c κs a).ghost) (x y : Res T.signature κs) (e f : AtExit T κs)
    → ent 𝓤 (sep 𝓤 ((c κs a).ensures g x e) ((c κs a).ensures g y f)) (fact 𝓤 (x ≡ y))

from_both : {M : Type 1} (𝓤 : Ura M) (P Q : SProp 𝓤) (φ ψ χ : Type 0) → ent 𝓤 P (fact 𝓤 φ) → ent 𝓤 Q (fact 𝓤 ψ) → (φ → ψ → χ) → ent 𝓤 (sep 𝓤 P Q) (fact 𝓤 χ)
from_both 𝓤 P Q φ ψ χ p q k = fact_use 𝓤 φ (via 𝓤 P (fst∗ 𝓤 P Q) p) (λ x. fact_use 𝓤 ψ (via 𝓤 Q (snd∗ 𝓤 P Q) q) (λ y. fact_i 𝓤 χ _ (k x y)))

both : {M : Type 1} (𝓤 : Ura M) (φ ψ : Type 0) → ent 𝓤 (sep 𝓤 (fact 𝓤 φ) (fact 𝓤 ψ)) (fact 𝓤 (φ × ψ))
both 𝓤 φ ψ = fact_use 𝓤 φ (fst∗ 𝓤 (fact 𝓤 φ) (fact 𝓤 ψ)) (λ x. fact_use 𝓤 ψ (snd∗ 𝓤 (fact 𝓤 φ) (fact 𝓤 ψ)) (λ y. fact_i 𝓤 (φ × ψ) _ (x, y)))

pub read_from_alone : {M : Type 1} {𝓤 : Ura M} (𝓛 : Logic 𝓤) (mem : Memory → SProp 𝓤) (run : Routine → Fun 𝓤) → NoSecondResult 𝓤 read-from.ended (read-from.clauses 𝓛 mem run)
read_from_alone {𝓤 = 𝓤} 𝓛 mem run κs a g x y e f = from_both 𝓤 _ _ _ _ (x ≡ y) (both 𝓤 _ _) (both 𝓤 _ _) (λ p q. same_reading x y (p.0 ∙ sym q.0) (p.1 ∙ sym q.1))

same_place : {s t : Bor (List ℕ)} {m n : ℕ} → s ≡ t → m ≡ n → ◌≡◌ {A = FileReader} (record { file = s; place = m }) (record { file = t; place = n })
same_place s m = rw (s, m)

pub begin_alone : {M : Type 1} {𝓤 : Ura M} (𝓛 : Logic 𝓤) (mem : Memory → SProp 𝓤) (run : Routine → Fun 𝓤) → NoSecondResult 𝓤 begin.ended (begin.clauses 𝓛 mem run)
begin_alone {𝓤 = 𝓤} 𝓛 mem run κs a g x y e f =
    from_both 𝓤 _ _ (Begun a.0 x) (Begun a.0 y) (x ≡ y) (id⊢ 𝓤 _) (id⊢ 𝓤 _) (λ p q. same_place (p.0 ∙ sym q.0) (p.1 ∙ sym q.1))

-- the record back from the numbers of cells and rows
counts_of : ℕ × ℕ → Counts
counts_of pair = record { cells = pair.0; rows = pair.1 }

counts_back : (counts : Counts) → counts_of (counts.cells, counts.rows) ≡ counts
unfolding counts_of
counts_back counts = refl

pub board_counts_alone : NoSecondAnswer 1 board-counts-kinds.ps board-counts-kinds.r board-counts.Post (λ κs e. tt {0})
board_counts_alone κs a x y e f p q = (same_told_by (λ c. (c.cells, c.rows)) counts_of counts_back p q, refl)

-- of every error that is Numbered; what else a call hands over with its type, the contract doesn't read
pub refusal_of_alone : (E : RattleType) (laws : Laws E) (copy : IsCopy E) (numbered : Numbered.Ghosts E.Denot) (code : Dict) (clone : Clone.Ghosts E.Denot) (clone_code : Dict)
    → NoSecondAnswer 1 (refusal-of-kinds.ps E laws copy) (refusal-of-kinds.r E laws copy) (refusal-of.Post E laws copy numbered code clone clone_code) (λ κs e. tt {0})
refusal_of_alone E laws copy numbered code clone clone_code κs a x y e f p q = (p ∙ sym q, refl)

pub refusal_number_alone : NoSecondAnswer 0 refusal-number-kinds.ps refusal-number-kinds.r refusal-number.Post (λ κs e. tt {0})
refusal_number_alone κs a x y e f p q = (p ∙ sym q, refl)

pub byte_number_alone : NoSecondAnswer 0 byte-number-kinds.ps byte-number-kinds.r byte-number.Post (λ κs e. tt {0})
byte_number_alone κs a x y e f p q = (p ∙ sym q, refl)

pub trailer_place_alone : NoSecondAnswer 1 trailer-place-kinds.ps trailer-place-kinds.r trailer-place.Post (λ κs e. tt {0})
trailer_place_alone κs a x y e f p q = (p ∙ sym q, refl)
