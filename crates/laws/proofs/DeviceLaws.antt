-- K5: a device write looks at its list's length and at its own device's record alone, and no call changes the number of devices.
use Prim.Native.Nat.{ℕ, zero, suc}
use mathlib.Core.Path.{◌≡◌, refl, ap}
use Rattle.model.specs.declared.State.{State}
use Rattle.model.specs.Guard.{Guard, in_mode, with_pending}
use Rattle.model.specs.Devices.{device_at}
use Rattle.model.specs.Questions.{first_no, seen, device_write_questions}
use Rattle.model.specs.Calls.{Outcome, settle, questions_of, effect_of, brought_by, refused_of, answer}
use Rattle.laws.specs.Windows.{WindowsIndependent, DevicesKept}
use Rattle.laws.proofs.CallLaws.{effects}

pub windows-independent : WindowsIndependent
unfolding WindowsIndependent answer questions_of effect_of brought_by device_write_questions device_at
windows-independent g changed before after same device address size other = rw (same.long, same.others device other)

settled-devices : (g : Guard) (n count : ℕ) (done : Outcome) (refusal : ℕ → Outcome) → done.guard.state.devices ≡ count
    → ((k : ℕ) → (refusal k).guard.state.devices ≡ count) → (settle n done refusal).guard.state.devices ≡ count
unfolding settle
settled-devices g zero count done refusal d r = d
settled-devices g (suc n) count done refusal d r = r (suc n)

pub devices-kept : DevicesKept
unfolding DevicesKept answer in_mode with_pending
devices-kept g call =
    settled-devices g (first_no (questions_of (seen g) call)) g.state.devices (effect_of g call) (refused_of g (brought_by call))
    (ap (λ (s : State). s.devices) (effects g call).state) (λ k. refl)
