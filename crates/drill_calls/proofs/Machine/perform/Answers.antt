-- `drill_calls::Machine::perform` meets its contract.
use Rattle.std.proofs.Common.{rules}
use Rattle.drill_calls.proofs.CallLaws.{edit-performed, sync-page-performed, sync-all-performed, fetch-performed, write-performed}
use Rattle.drill_calls.proofs.CallLaws.{enter-performed, leave-performed, device-write-performed}
use Rattle.drill_calls.proofs.Machine.perform.Goals as goal

pub returns-in-Edit : goal.returns-in-Edit
returns-in-Edit c = search (rules, edit-performed)

pub returns-in-SyncPage : goal.returns-in-SyncPage
returns-in-SyncPage c = search (rules, sync-page-performed)

pub returns-in-SyncAll : goal.returns-in-SyncAll
returns-in-SyncAll c = search (rules, sync-all-performed)

pub returns-in-Fetch : goal.returns-in-Fetch
returns-in-Fetch c = search (rules, fetch-performed)

pub returns-in-Write : goal.returns-in-Write
returns-in-Write c = search (rules, write-performed)

pub returns-in-Enter : goal.returns-in-Enter
returns-in-Enter c = search (rules, enter-performed)

pub returns-in-Leave : goal.returns-in-Leave
returns-in-Leave c = search (rules, leave-performed)

pub returns-in-DeviceWrite : goal.returns-in-DeviceWrite
returns-in-DeviceWrite c = search (rules, device-write-performed)
