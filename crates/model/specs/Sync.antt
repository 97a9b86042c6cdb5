-- Document 01, "Synchronising one page", and the same for all pages.
use Rattle.std.specs.Prelude.{ℕ, suc, ◌+◌, Bool, not, cond, List, [], ◌∷◌, leb, eqb, get_or, None, Some, Option}
use Rattle.model.specs.declared.Fields.{Fields}
use Rattle.model.specs.Basics.{differs}
use Rattle.model.specs.Guard.{none}
use Rattle.model.specs.Bits.{taken_apart, approved, ordinary, inspected}

-- What a step reads beside the kernel entry and the page's approval.
pub record Rules : Type 0 where
  pub user : Bool
  pub frames : ℕ
  -- the pending frame, or 65535, which is no frame below F (K6)
  pub pending : ℕ
  pub excluded : ℕ → Bool

abbrev pub rules : Bool → ℕ → ℕ → (ℕ → Bool) → Rules
rules user frames pending excluded = record { user = user; frames = frames; pending = pending; excluded = excluded }

-- A page's slot in the tables: its shadow entry and its number in the map.
pub record Slot : Type 0 where
  pub entry : ℕ
  pub approval : ℕ

abbrev pub slot : ℕ → ℕ → Slot
slot entry approval = record { entry = entry; approval = approval }

-- "1. Kernel entry absent: shadow 0; map unchanged."
-- "2. Else the map has a frame for this page: an approved entry with the map's frame, not the kernel's." Source 000, section 5.1: a kernel
-- entry that maps an approved virtual page must contain the address of an approved physical page.
-- "3. Else frame at or above F: shadow 0." Source 004, section 4.2: no address at or above the memory limit is copied.
-- K6: "while pending, synchronising an ordinary entry for it clears writable and sets bit 9; this comes before step 4." The page does not join.
-- "4. Else the frame is excluded: the page joins the map with it; approved entry." Source 000, section 5.1: every virtual alias of an
-- approved physical page must disallow writes to it.
-- "5. Else ordinary: present, writable, user, frame and bit 9 from the kernel entry." K3: and bits 3 and 4.
unfoldable pub step_of : Rules → Option Fields → ℕ → Slot
step_of rules None approval = slot 0 approval
step_of rules (Some x) approval =
    cond (not (eqb approval none)) (slot (approved rules.user approval) approval)
    (cond (leb rules.frames x.frame) (slot 0 approval)
    (cond (eqb x.frame rules.pending) (slot (ordinary rules.user (inspected x)) approval)
    (cond (rules.excluded x.frame) (slot (approved rules.user x.frame) x.frame)
    (slot (ordinary rules.user x) approval))))

-- Steps 1 to 5 on a kernel entry and the page's number in the map. The shadow entry that stood there is not read.
unfoldable pub step : Rules → ℕ → ℕ → Slot
step rules entry approval = step_of rules (taken_apart entry) approval

-- Both tables after a synchronisation, with its two counts.
pub record Sweep : Type 0 where
  pub shadow : List ℕ
  pub map : List ℕ
  pub changed : ℕ
  pub joined : ℕ

abbrev pub sweep : List ℕ → List ℕ → ℕ → ℕ → Sweep
sweep shadow map changed joined = record { shadow = shadow; map = map; changed = changed; joined = joined }

-- A sweep whose first page had the entry s and the number m and has now the slot p.
unfoldable pub before : ℕ → ℕ → Slot → Sweep → Sweep
before s m p rest =
    record {
      shadow = p.entry ∷ rest.shadow;
      map = p.approval ∷ rest.map;
      changed = differs s p.entry + rest.changed;
      joined = differs m p.approval + rest.joined;
    }

-- "All pages: the same for each, in rising order." From a page on, each page gets the slot that f makes of its number, its entry and its
-- approval. What goes past the shorter table stays as it is.
unfoldable pub sweep_from : (ℕ → ℕ → ℕ → Slot) → ℕ → List ℕ → List ℕ → Sweep
sweep_from f page [] map = sweep [] map 0 0
sweep_from f page (s ∷ shadow) [] = sweep (s ∷ shadow) [] 0 0
sweep_from f page (s ∷ shadow) (m ∷ map) = before s m (f page s m) (sweep_from f (suc page) shadow map)

-- A page's entry in the kernel table.
abbrev pub entry_in : List ℕ → ℕ → ℕ
entry_in kernel page = get_or kernel page 0

-- Of what gives each page its kernel entry, the step of a page on its own.
unfoldable pub step_from : Rules → (ℕ → ℕ) → ℕ → ℕ → ℕ → Slot
step_from rules kernel page entry approval = step rules (kernel page) approval
