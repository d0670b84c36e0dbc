-- Why an own file wasn't read (own).
use Rattle.nodelist_files.specs.declared.fault.CompileFault.{CompileFault}
use Rattle.nodelist_files.specs.declared.fault.CompileFault.TheVariants as C
use Rattle.nodelist_files.specs.declared.fault.IndexFileFault.{IndexFileFault}
use Rattle.nodelist_files.specs.declared.fault.IndexFileFault.TheVariants as I
use Rattle.nodelist_files.specs.declared.reading.ReadFault.{ReadFault}
use Rattle.nodelist_files.specs.declared.reading.ReadFault.TheVariants.{Disk, NoMemory}

abbrev pub compile_fault : ReadFault → CompileFault
compile_fault Disk = C.Disk
compile_fault NoMemory = C.NoMemory

abbrev pub index_fault : ReadFault → IndexFileFault
index_fault Disk = I.Disk
index_fault NoMemory = I.NoMemory
