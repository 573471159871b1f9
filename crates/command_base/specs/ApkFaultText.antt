-- The name of an apk's fault.
use Rattle.std.specs.Prelude.{ℕ, List, codes}
use Rattle.apk_member.specs.declared.fault.ApkFault.{ApkFault}
use Rattle.apk_member.specs.declared.fault.ApkFault.TheVariants.{NotZip, Directory, NoTable, Twice, Encrypted, Compressed, Member}

abbrev pub apk_fault_text : ApkFault → List ℕ
apk_fault_text NotZip = codes "NotZip"
apk_fault_text Directory = codes "Directory"
apk_fault_text NoTable = codes "NoTable"
apk_fault_text Twice = codes "Twice"
apk_fault_text Encrypted = codes "Encrypted"
apk_fault_text Compressed = codes "Compressed"
apk_fault_text Member = codes "Member"
