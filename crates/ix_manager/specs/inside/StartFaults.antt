-- Why a manager wasn't started.
use Rattle.std.specs.Prelude.{ℕ}
use Rattle.ix_engine.specs.declared.faults.PrepareFault.{PrepareFault}
use Rattle.ix_engine.specs.declared.faults.PrepareFault.TheVariants as prepare
use Rattle.ix_step.specs.declared.fault.BuildFault.{BuildFault}
use Rattle.ix_step.specs.declared.fault.BuildFault.TheVariants as build
use Rattle.ix_store.specs.declared.fault.OpenFault.{OpenFault}
use Rattle.ix_store.specs.declared.fault.OpenFault.TheVariants as opening
use Rattle.ix_manager.specs.declared.faults.StartFault.{StartFault}
use Rattle.ix_manager.specs.declared.faults.StartFault.TheVariants as start

-- the fault of a start whose engine wasn't made
abbrev pub start_fault_of : BuildFault → StartFault
start_fault_of (build.Over limit) = start.Large limit
start_fault_of build.Memory = start.Memory

-- the fault of a start whose store wasn't opened
abbrev pub open_fault_of : OpenFault → StartFault
open_fault_of opening.Disk = start.Disk
open_fault_of opening.NotJournal = start.Foreign
open_fault_of (opening.OtherExpression kept) = start.Other kept
open_fault_of (opening.Damaged at) = start.Damaged at
open_fault_of opening.Many = start.Many
open_fault_of opening.Memory = start.Memory

-- the fault of a start whose engine didn't take the action of the record of this number
abbrev pub record_fault_of : ℕ → PrepareFault → StartFault
record_fault_of number prepare.NotPartial = start.Word number
record_fault_of number prepare.Full = start.Many
record_fault_of number (prepare.Over limit) = start.Heavy number limit
record_fault_of number prepare.Memory = start.Memory
