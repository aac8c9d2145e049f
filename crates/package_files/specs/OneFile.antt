-- Files of which there is one.
use Rattle.std.specs.Prelude.{ℕ, List, [], ◌∷◌}
use Rattle.host_io.specs.Contents.{Directory, bytes_in}
use Rattle.package_files.specs.declared.files.PackageFiles.{PackageFiles}

-- the directory that has these bytes under this name, and no other file
abbrev pub one_file : List ℕ → List ℕ → Directory
one_file name bytes = bytes_in ((name, bytes) ∷ [])

abbrev pub package_directory : PackageFiles → Directory
package_directory f = one_file f.name.now f.bytes.now
