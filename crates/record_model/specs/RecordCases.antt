-- Document 02, K2: what the call that writes a record gives on small policies. A row fixes the number, both values and every byte of the buffer.
-- Unless a row says otherwise, the policy is that of two_entries (Further), and the buffer holds nines.
use Rattle.std.specs.Prelude.{ℕ, true, false, List, [], ◌∷◌, ◌++◌, replicate}
use Rattle.model.specs.Basics.{table}
use Rattle.model.specs.Policy.{Policy}
use Rattle.model.specs.Calls.{accepted, refused}
use Rattle.record_model.specs.Record.{policy_by, Written, written, write_record_of}
use Rattle.model.specs.Cases.{Row, row, policy_bytes}
use Rattle.model.specs.Further.{two_entries}

-- Its record written into a buffer of so many bytes, and the call refused there.
unfoldable pub written_into : ℕ → Policy → Written
written_into room policy = write_record_of true policy (replicate room 9)

unfoldable pub left_as : ℕ → ℕ → Written
left_as room number = written (refused number) (replicate room 9)

-- V 6, F 8, n 3, e 2, pages 1, 2 and 4, frames 5, 3 and 5, with other sizes, and with other arrays.
unfoldable pub sized : ℕ → ℕ → ℕ → ℕ → Policy
sized pages frames count entry_count = policy_by pages frames count entry_count (1 ∷ 2 ∷ 4 ∷ []) (5 ∷ 3 ∷ 5 ∷ [])

unfoldable pub listing : List ℕ → List ℕ → Policy
listing listed_pages listed_frames = policy_by 6 8 3 2 listed_pages listed_frames

abbrev pub RecordCase : Type 0
RecordCase = Row Written

unfoldable pub record_cases : List RecordCase
record_cases =
    -- "write the record into a lent buffer and give its length": the policy of the worked example, and that of two_entries; "Bytes past the record
    -- stay untouched."
    row (written_into 12 (policy_by 4 4 1 1 (1 ∷ []) (2 ∷ []))) (written (accepted 12 0) policy_bytes)
    ∷ row (written_into 20 (sized 6 8 3 2)) (written (accepted 20 0) two_entries)
    ∷ row (written_into 23 (sized 6 8 3 2)) (written (accepted 20 0) (two_entries ++ (9 ∷ 9 ∷ 9 ∷ [])))
    -- Numbers above 255, the lower byte first; the ends of the ranges: V 2,048, F 4,096, page 2,047, frame 4,095; page and frame 0
    ∷ row (written_into 21 (policy_by 2048 4096 3 1 (0 ∷ 258 ∷ 2047 ∷ []) (4095 ∷ 0 ∷ 513 ∷ [])))
    (written (accepted 20 0)
    (0 ∷ 8 ∷ 0 ∷ 16 ∷ 3 ∷ 0 ∷ 1 ∷ 0 ∷ 0 ∷ 0 ∷ 2 ∷ 1 ∷ 255 ∷ 7 ∷ 255 ∷ 15 ∷ 0 ∷ 0 ∷ 1 ∷ 2 ∷ 9 ∷ []))
    -- n V and e n
    ∷ row (written_into 16 (policy_by 2 1 2 2 (0 ∷ 1 ∷ []) (0 ∷ 0 ∷ [])))
    (written (accepted 16 0) (2 ∷ 0 ∷ 1 ∷ 0 ∷ 2 ∷ 0 ∷ 2 ∷ 0 ∷ 0 ∷ 0 ∷ 1 ∷ 0 ∷ 0 ∷ 0 ∷ 0 ∷ 0 ∷ []))
    -- 2, with V and F past each end; a number is not cut to 16, 32 or 63 bits: 2^63 + 6 is not 6
    ∷ row (written_into 20 (sized 0 8 3 2)) (left_as 20 2)
    ∷ row (written_into 20 (sized 2049 8 3 2)) (left_as 20 2)
    ∷ row (written_into 20 (sized 9223372036854775814 8 3 2)) (left_as 20 2)
    ∷ row (written_into 20 (sized 6 0 3 2)) (left_as 20 2)
    ∷ row (written_into 20 (sized 6 4097 3 2)) (left_as 20 2)
    ∷ row (written_into 20 (sized 6 9223372036854775816 3 2)) (left_as 20 2)
    -- 3: n 0, n above V, e 0, e above n; e 17 of 17, where e 16 goes on to 4
    ∷ row (written_into 20 (sized 6 8 0 2)) (left_as 20 3)
    ∷ row (written_into 36 (sized 6 8 7 2)) (left_as 36 3)
    ∷ row (written_into 20 (sized 6 8 9223372036854775811 2)) (left_as 20 3)
    ∷ row (written_into 20 (sized 6 8 3 0)) (left_as 20 3)
    ∷ row (written_into 20 (sized 6 8 3 4)) (left_as 20 3)
    ∷ row (written_into 20 (sized 6 8 3 9223372036854775810)) (left_as 20 3)
    ∷ row (written_into 76 (sized 17 8 17 17)) (left_as 76 3)
    ∷ row (written_into 76 (sized 17 8 17 16)) (left_as 76 4)
    -- 4: "each array must also have exactly n numbers": each of them one short, and one long
    ∷ row (written_into 20 (listing (1 ∷ 2 ∷ []) (5 ∷ 3 ∷ 5 ∷ []))) (left_as 20 4)
    ∷ row (written_into 24 (listing (1 ∷ 2 ∷ 4 ∷ 5 ∷ []) (5 ∷ 3 ∷ 5 ∷ []))) (left_as 24 4)
    ∷ row (written_into 20 (listing (1 ∷ 2 ∷ 4 ∷ []) (5 ∷ 3 ∷ []))) (left_as 20 4)
    ∷ row (written_into 24 (listing (1 ∷ 2 ∷ 4 ∷ []) (5 ∷ 3 ∷ 5 ∷ 1 ∷ []))) (left_as 24 4)
    -- both one long, and a number moved from one to the other
    ∷ row (written_into 24 (listing (1 ∷ 2 ∷ 4 ∷ 5 ∷ []) (5 ∷ 3 ∷ 5 ∷ 1 ∷ []))) (left_as 24 4)
    ∷ row (written_into 20 (listing (1 ∷ 2 ∷ []) (4 ∷ 5 ∷ 3 ∷ 5 ∷ []))) (left_as 20 4)
    -- 5: the second page equal to the first, the last below the second, the last V
    ∷ row (written_into 20 (listing (1 ∷ 1 ∷ 4 ∷ []) (5 ∷ 3 ∷ 5 ∷ []))) (left_as 20 5)
    ∷ row (written_into 20 (listing (1 ∷ 4 ∷ 2 ∷ []) (5 ∷ 3 ∷ 5 ∷ []))) (left_as 20 5)
    ∷ row (written_into 20 (listing (1 ∷ 2 ∷ 6 ∷ []) (5 ∷ 3 ∷ 5 ∷ []))) (left_as 20 5)
    -- the last above V, and the first frame above F
    ∷ row (written_into 20 (listing (1 ∷ 2 ∷ 7 ∷ []) (9 ∷ 3 ∷ 5 ∷ []))) (left_as 20 5)
    -- 6: the first frame F, the last frame F, the second above F
    ∷ row (written_into 20 (listing (1 ∷ 2 ∷ 4 ∷ []) (8 ∷ 3 ∷ 5 ∷ []))) (left_as 20 6)
    ∷ row (written_into 20 (listing (1 ∷ 2 ∷ 4 ∷ []) (5 ∷ 3 ∷ 8 ∷ []))) (left_as 20 6)
    ∷ row (written_into 20 (listing (1 ∷ 2 ∷ 4 ∷ []) (5 ∷ 9 ∷ 5 ∷ []))) (left_as 20 6)
    -- 16: "an output buffer shorter than the record", by one byte, with n 3, 1 and 62, and one of no byte; it stays as it was
    ∷ row (written_into 19 (sized 6 8 3 2)) (left_as 19 16)
    ∷ row (written_into 11 (policy_by 4 4 1 1 (1 ∷ []) (2 ∷ []))) (left_as 11 16)
    ∷ row (written_into 255 (policy_by 62 1 62 1 (table 62 (λ i. i)) (replicate 62 0))) (left_as 255 16)
    ∷ row (written_into 0 (sized 6 8 3 2)) (left_as 0 16)
    ∷ row (write_record_of true (sized 6 8 3 2) (1 ∷ 2 ∷ 3 ∷ [])) (written (refused 16) (1 ∷ 2 ∷ 3 ∷ []))
    -- The order. 2 to 16: V 0, F 8, n 7, e 0, arrays of 2 and 1, pages at or above V that fall, frames above F, a run for the numbers that does not
    -- fit, a buffer of one byte; the same with F 0; then 3 to 16, 4 to 16 with both arrays and with one of them of another length, 5 to 16, 6 to 16,
    -- 7 and 16
    ∷ row (write_record_of false (policy_by 0 8 7 0 (7 ∷ 1 ∷ []) (9 ∷ [])) (9 ∷ [])) (left_as 1 2)
    ∷ row (write_record_of false (policy_by 6 0 7 0 (7 ∷ 1 ∷ []) (9 ∷ [])) (9 ∷ [])) (left_as 1 2)
    ∷ row (write_record_of false (policy_by 6 8 7 2 (7 ∷ 1 ∷ []) (9 ∷ [])) (9 ∷ [])) (left_as 1 3)
    ∷ row (write_record_of false (policy_by 6 8 3 2 (7 ∷ 1 ∷ []) (9 ∷ [])) (9 ∷ [])) (left_as 1 4)
    ∷ row (write_record_of false (listing (7 ∷ 1 ∷ []) (9 ∷ 3 ∷ 5 ∷ [])) (9 ∷ [])) (left_as 1 4)
    ∷ row (write_record_of false (listing (7 ∷ 1 ∷ 4 ∷ []) (9 ∷ 3 ∷ [])) (9 ∷ [])) (left_as 1 4)
    ∷ row (write_record_of false (policy_by 6 8 2 2 (7 ∷ 1 ∷ []) (9 ∷ 9 ∷ [])) (9 ∷ [])) (left_as 1 5)
    ∷ row (write_record_of false (policy_by 6 8 2 2 (1 ∷ 2 ∷ []) (9 ∷ 9 ∷ [])) (9 ∷ [])) (left_as 1 6)
    ∷ row (write_record_of false (policy_by 6 8 2 2 (1 ∷ 2 ∷ []) (7 ∷ 7 ∷ [])) (9 ∷ [])) (left_as 1 7)
    -- 7 alone
    ∷ row (write_record_of false (sized 6 8 3 2) (replicate 20 9)) (left_as 20 7)
    ∷ []
