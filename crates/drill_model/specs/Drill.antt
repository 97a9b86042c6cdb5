-- Document 01, "The drill program": what it takes of its input, what each call makes of the guard and the kernel table, and every byte that it
-- writes.
use Rattle.std.specs.Prelude.{ℕ, zero, suc, ◌+◌, ◌-◌, ◌*◌, ◌/◌, ◌%◌, ◌^◌, Bool, true, false, cond, List, [], ◌∷◌, ◌++◌, length, get_or, take, drop, replicate, set, ltb, eqb}
use Rattle.model.specs.declared.Mode.{Mode}
use Rattle.model.specs.declared.Device.{Device}
use Rattle.model.specs.Basics.{within}
use Rattle.model.specs.Guard.{Guard, vector_bytes, has_bit, in_user, running}
use Rattle.model.specs.Devices.{device_of}
use Rattle.model.specs.Policy.{Givens, given_of, Policy, policy_of, number_at}
use Rattle.model.specs.Questions.{question, first_no}
use Rattle.model.specs.Calls.{Reply, accepted, refused, settle, Outcome, start_of, Call, sync_page, sync_all, fetch, write, enter, leave, device_write, answer}

-- "It takes 8 bytes, and 4 × n more if n is 1 to 2,048, or as many as there are."
unfoldable pub policy_extent : List ℕ → ℕ
policy_extent input = 8 + cond (within 1 2048 (number_at input 4)) (4 * number_at input 4) 0

-- The guard of the drill, with the kernel table that its edits change and its list of devices (K5).
pub record Drill : Type 0 where
  pub guard : Guard
  pub kernel : List ℕ
  pub devices : List Device

-- "The drill has 64 devices with all frames as window" (K5): frames 0 to F - 1.
abbrev pub drill_devices : ℕ
drill_devices = 64

unfoldable pub windows_of : ℕ → List Device
windows_of frames = replicate drill_devices (device_of 0 (frames - 1))

-- What the drill's start is given beside the record, and the start on tables of the record's own sizes, all zeros.
abbrev pub drill_given : Givens
drill_given = given_of drill_devices

unfoldable pub drill_start : List ℕ → Outcome
drill_start record' =
    let policy : Policy = policy_of record' in
    start_of drill_given record'
    (record {
      shadow = replicate policy.pages 0;
      map = replicate policy.pages 0;
      exclusion = replicate (vector_bytes policy.frames) 0;
    })

-- "The kernel table begins as zeros."
unfoldable pub begun : Guard → Drill
begun g = record { guard = g; kernel = replicate g.state.pages 0; devices = windows_of g.state.frames }

-- "A call: byte 0 kind, byte 1 ignored, 2 to 3 index, 4 to 7 length, 8 to 15 value."
unfoldable pub kind_of : List ℕ → ℕ
kind_of bytes = get_or bytes 0 0

unfoldable pub index_of : List ℕ → ℕ
index_of bytes = number_at bytes 2

unfoldable pub length_of : List ℕ → ℕ
length_of bytes = number_at bytes 4 + 2 ^ 16 * number_at bytes 6

unfoldable pub value_of : List ℕ → ℕ
value_of bytes = number_at bytes 8 + 2 ^ 16 * number_at bytes 10 + 2 ^ 32 * number_at bytes 12 + 2 ^ 48 * number_at bytes 14

-- A reply, with the guard and the kernel table after it.
pub record Drilled : Type 0 where
  pub reply : Reply
  pub drill : Drill

unfoldable pub with_guard : Drill → Outcome → Drilled
with_guard d outcome = record { reply = outcome.reply; drill = record { guard = outcome.guard; kernel = d.kernel; devices = d.devices } }

-- "0 edit the kernel table (index, value; question 9)". "An accepted edit gives 0 and 0."
unfoldable pub edited : Drill → ℕ → ℕ → Drilled
edited d page value =
    settle (first_no (question 9 (ltb page d.guard.state.pages) ∷ []))
    (record { reply = accepted 0 0; drill = record { guard = d.guard; kernel = set d.kernel page value; devices = d.devices } })
    (λ n. record { reply = refused n; drill = d })

-- "Kinds: 0 edit the kernel table [..], 1 synchronise one (index), 2 all, 3 fetch (index), 4 write (length; value is the address), 5 enter
-- (index of the entry), 6 leave (index), 7 device write (length; value is the address)." K5: the drill "puts the device in the index field". Arguments: kernel table,
-- devices, kind, index, length, value.
unfoldable pub call_of : List ℕ → List Device → ℕ → ℕ → ℕ → ℕ → Call
call_of kernel devices kind index length value =
    cond (eqb kind 1) (sync_page kernel index)
    (cond (eqb kind 2) (sync_all kernel)
    (cond (eqb kind 3) (fetch index)
    (cond (eqb kind 4) (write value length)
    (cond (eqb kind 5) (enter index)
    (cond (eqb kind 6) (leave index)
    (device_write devices index value length))))))

unfoldable pub performed : Drill → ℕ → ℕ → ℕ → ℕ → Drilled
performed d kind index length value =
    cond (eqb kind 0) (edited d index value)
    (with_guard d (answer d.guard (call_of d.kernel d.devices kind index length value)))

-- Decimal digits with no leading zero; 20 of them hold every number of 64 bits.
unfoldable pub digits : ℕ → ℕ → List ℕ
digits zero n = []
digits (suc room) n = cond (ltb n 10) ((48 + n) ∷ []) (digits room (n / 10) ++ ((48 + n % 10) ∷ []))

unfoldable pub decimal : ℕ → List ℕ
decimal n = digits 20 n

-- "One line a call: kind [..], number or 0, the two numbers, K or U, page running." 32 is a space, 10 ends a line, 75 is K and 85 U.
unfoldable pub line : ℕ → Reply → Mode → List ℕ
line kind reply mode =
    (kind ∷ 32 ∷ decimal reply.number) ++ (32 ∷ decimal reply.first) ++ (32 ∷ decimal reply.second)
    ++ (32 ∷ cond (in_user mode) 85 75 ∷ 32 ∷ decimal (running mode)) ++ (10 ∷ [])

-- "S for the start, X for 14 or 15, which end the calls": 83 and 88. A kind's own digit is 48 more than it.
unfoldable pub start_line : Outcome → List ℕ
start_line start = line 83 start.reply start.guard.state.mode

-- What one call makes: the guard and kernel table after it, its line, and whether calls go on.
pub record Turn : Type 0 where
  pub drill : Drill
  pub line : List ℕ
  pub goes : Bool

unfoldable pub turn_of : ℕ → Drilled → Turn
turn_of kind r =
    record { drill = r.drill; line = line (48 + kind) r.reply r.drill.guard.state.mode; goes = true }

-- "14. Drill only: does a whole call of 16 bytes remain, where anything remains? 15. Drill only: is the kind 0 to 7?" Of the bytes that remain,
-- at most 16. Where nothing remains, the calls end with no line.
unfoldable pub turn : Drill → List ℕ → Turn
turn d [] = record { drill = d; line = []; goes = false }
turn d (first ∷ rest) =
    let bytes : List ℕ = first ∷ rest in
    let kind : ℕ = kind_of bytes in
    settle (first_no (question 14 (eqb (length bytes) 16) ∷ question 15 (ltb kind 8) ∷ []))
    (turn_of kind (performed d kind (index_of bytes) (length_of bytes) (value_of bytes)))
    (λ n. record { drill = d; line = line 88 (refused n) d.guard.state.mode; goes = false })

-- "Then the shadow entries in rising order, 16 lower-case hexadecimal digits a line"
unfoldable pub hex_digit : ℕ → ℕ
hex_digit n = cond (ltb n 10) (48 + n) (87 + n)

unfoldable pub hex_digits : ℕ → ℕ → List ℕ
hex_digits zero n = []
hex_digits (suc k) n = hex_digit (n / 16 ^ k % 16) ∷ hex_digits k n

unfoldable pub entry_lines : List ℕ → List ℕ
entry_lines [] = []
entry_lines (e ∷ es) = hex_digits 16 e ++ (10 ∷ entry_lines es)

-- How many of the count numbers from first on pass the test.
unfoldable pub count_from : (ℕ → Bool) → ℕ → ℕ → ℕ
count_from test first zero = 0
count_from test first (suc count) = cond (test first) 1 0 + count_from test (suc first) count

-- "to the nearest, an exact half to the even number" (K7): of a quotient rounded down and the next number. What the division leaves, twice, is
-- below the divisor, above it, or at an exact half the divisor itself.
unfoldable pub nearest : ℕ → ℕ → ℕ
nearest n d =
    let down : ℕ = n / d in
    let twice : ℕ = 2 * (n % d) in
    cond (ltb twice d) down (cond (ltb d twice) (down + 1) (down + down % 2))

-- "100 × excluded frames / F", to the nearest (K7).
unfoldable pub share : ℕ → List ℕ → ℕ
share frames exclusion = nearest (100 * count_from (has_bit exclusion) 0 frames) frames

-- "and the word share with" that figure.
unfoldable pub share_line : ℕ → List ℕ → List ℕ
share_line frames exclusion = (115 ∷ 104 ∷ 97 ∷ 114 ∷ 101 ∷ 32 ∷ decimal (share frames exclusion)) ++ (10 ∷ [])

unfoldable pub closing : Guard → List ℕ
closing g = entry_lines g.tables.shadow ++ share_line g.state.frames g.tables.exclusion

-- "then at most 1,024 calls"
unfoldable pub call_limit : ℕ
call_limit = 1024

-- The lines of at most so many calls, and the closing lines.
unfoldable pub call_lines : ℕ → Drill → List ℕ → List ℕ
call_lines zero d rest = closing d.guard
call_lines (suc calls) d rest =
    let t : Turn = turn d (take 16 rest) in
    let more : List ℕ = call_lines calls t.drill (drop 16 rest) in
    t.line ++ cond t.goes more (closing t.drill.guard)

-- Everything that the drill writes. "A refused start prints its line alone."
unfoldable pub drill_output : List ℕ → List ℕ
drill_output input =
    let start : Outcome = drill_start (take (policy_extent input) input) in
    let calls : List ℕ = call_lines call_limit (begun start.guard) (drop (policy_extent input) input) in
    start_line start ++ settle start.reply.number calls (λ n. [])
